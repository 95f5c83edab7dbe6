use Rattle.irtext_base.proofs.NotationBack.{notation_back, notation_whole}
use Rattle.irtext_tokens.proofs.laws.values.notations_come_back.Goals as goal

pub returns : goal.returns
returns c = record { back = notation_back; whole = λ text rest format e. notation_whole text format rest e }
