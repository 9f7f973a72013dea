use Rattle.pb_serving.proofs.CutOff.{closed_cut, unclosed_cut}
use Rattle.pb_serving.proofs.laws.what_is_cut_off_is_its_words.Goals as goal

pub returns : goal.returns
returns c = record { closed = λ cut ends all stops. closed_cut cut stops ends all; unclosed = unclosed_cut }
