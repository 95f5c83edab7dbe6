-- Calls in a row that only append.
use Rattle.std.proofs.Common.{◌≡◌, ◌++◌, ◌∙◌, ℕ, List, [], refl, sym, ap, Result, Ok, Err, OnErr, string_bytes}
use Rattle.std.proofs.lemmas.List.{append_assoc, append-nil}
use Rattle.std.specs.declared.string.String.{String}
use Rattle.std.specs.declared.alloc.Global.{Global}
use Rattle.irtext_base.specs.Appending.{OnlyAppends}

-- nothing was appended
pub appends_nothing : {old new : String Global} → string_bytes new ≡ string_bytes old → OnlyAppends old new
appends_nothing {old} p = record { more = []; text = p ∙ sym (append-nil (string_bytes old)) }

-- this text was appended
pub appends_this : {old new : String Global} (more : List ℕ) → string_bytes new ≡ string_bytes old ++ more → OnlyAppends old new
appends_this more p = record { more = more; text = p }

-- one call after another
pub appends_more : {old now new : String Global} → OnlyAppends old now → OnlyAppends now new → OnlyAppends old new
appends_more {old} {now} {new} a b = record { more = a.more ++ b.more; text = b.text ∙ ap (λ z. z ++ b.more) a.text ∙ append_assoc (string_bytes old) a.more b.more }

-- one text more
pub appends_next : {old now new : String Global} → OnlyAppends old now → (more : List ℕ) → string_bytes new ≡ string_bytes now ++ more → OnlyAppends old new
appends_next a more p = appends_more a (appends_this more p)

-- nothing more
pub appends_still : {old now new : String Global} → OnlyAppends old now → string_bytes new ≡ string_bytes now → OnlyAppends old new
appends_still a p = appends_more a (appends_nothing p)

-- what holds whatever was returned
pub if_failed : {X E P : Type 0} (r : Result X E) → P → OnErr r P
if_failed (Ok x) p = tt
if_failed (Err e) p = p

-- a call that failed after others
pub failed_after : {X E : Type 0} (r : Result X E) {old now : String Global} (new : String Global) → OnlyAppends old now → OnErr r (OnlyAppends now new) → OnErr r (OnlyAppends old new)
failed_after (Ok x) new a b = tt
failed_after (Err e) new a b = appends_more a b
