pub mod News
pub mod Written
