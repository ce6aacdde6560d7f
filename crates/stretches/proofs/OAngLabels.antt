-- What a driver sees, applied where the choice of O ang is 1: the bytes that the labels of specs/OAngLabels give.
use Rattle.std.specs.Prelude.{◌≡◌, refl}
use Rattle.std.proofs.Common.{◌∙◌, ap}
use Rattle.definition.specs.Texts.{chars}
use Rattle.definition.specs.Call.{called}
use Rattle.definition.specs.Sample.{o_ang_by}
use Rattle.stretches.specs.Driver.{spaced, line_of, Firsts, wrote}
use Rattle.stretches.proofs.Driven.{driven}
use Rattle.stretches.specs.Applied.{free_by}
use Rattle.stretches.specs.OAngLabels.{long-line, long_label, long_outputs, long_words, o_ang_label, o_ang_label-line, o_ang_outputs, o_ang_words, spaceless-call}

pub o_ang_label_firsts : Firsts o_ang_label o_ang_words
o_ang_label_firsts = (free_by (o_ang_by 1) _ refl, (free_by (o_ang_by 1) _ refl, tt))

pub o_ang_label-output : wrote (called o_ang_label) ≡ chars "k k"
unfolding line_of spaced
o_ang_label-output = (driven o_ang_label o_ang_words o_ang_label-line (spaceless-call "ก ่อก") o_ang_label_firsts).output
    ∙ ap line_of o_ang_outputs

pub long_firsts : Firsts long_label long_words
long_firsts = (free_by (o_ang_by 1) _ refl, (free_by (o_ang_by 1) _ refl, (free_by (o_ang_by 1) _ refl, tt)))

pub long-output : wrote (called long_label) ≡ chars "k k k"
unfolding line_of spaced
long-output = (driven long_label long_words long-line (spaceless-call "ก ่อก ่อก") long_firsts).output
    ∙ ap line_of long_outputs
