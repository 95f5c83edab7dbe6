-- What a call that writes leaves of the text, whatever it returned.
use Rattle.std.proofs.Common.{◌≡◌, ◌++◌, ℕ, List, Result, Ok, Err, OnOk, OnErr, string_bytes}
use Rattle.std.specs.declared.string.String.{String}
use Rattle.std.specs.declared.alloc.Global.{Global}
use Rattle.irtext_base.specs.Appending.{OnlyAppends}
use Rattle.irtext_base.proofs.OnlyAppended.{appends_more, appends_this}

-- a last call, which appends this text where it succeeds
pub ended_with : {X E : Type 0} (r : Result X E) {old now : String Global} (new : String Global) (more : List ℕ) → OnlyAppends old now → OnOk r (string_bytes new ≡ string_bytes now ++ more) → OnErr r (OnlyAppends now new) → OnlyAppends old new
ended_with (Ok x) new more a p q = appends_more a (appends_this more p)
ended_with (Err e) new more a p q = appends_more a q
