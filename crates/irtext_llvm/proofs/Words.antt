-- That a text is found among groups of words exactly if it is one of the words.
use Rattle.std.proofs.Common.{◌≡◌, Bool, true, false, Option, Some, None, refl}
use Rattle.std.specs.Option.{is_some, option_or}
use Rattle.std.specs.Prelude.{cond, ◌||◌}
use Rattle.std.specs.Str.{bytes_eq}
use Rattle.irtext_base.specs.Text.{Text}

-- there is a value exactly if the test holds
pub record IsFound {A : Type 0} (o : Option A) (test : Bool) : Type 0 where
  pub is_found : is_some o ≡ test

by_test : (b : Bool) {A : Type 0} (x : A) (o r : Option A) {c : Bool} → IsFound (option_or o r) c → IsFound (option_or (cond b (Some x) o) r) (b || c)
by_test true x o r e = record { is_found = refl }
by_test false x o r e = record { is_found = e.is_found }

by_last_test : (b : Bool) {A : Type 0} (x : A) (o : Option A) {c : Bool} → IsFound o c → IsFound (cond b (Some x) o) (b || c)
by_last_test true x o e = record { is_found = refl }
by_last_test false x o e = record { is_found = e.is_found }

-- one word more, in a group before others
pub in_group : (text word : Text) {A : Type 0} (x : A) (o r : Option A) {c : Bool} → IsFound (option_or o r) c → IsFound (option_or (cond (bytes_eq text word) (Some x) o) r) (bytes_eq text word || c)
in_group text word x o r e = by_test (bytes_eq text word) x o r e

-- the groups after one
pub in_others : {A : Type 0} (r : Option A) {c : Bool} → IsFound r c → IsFound (option_or None r) c
in_others r e = record { is_found = e.is_found }

-- one word more, in the last group
pub in_last : (text word : Text) {A : Type 0} (x : A) (o : Option A) {c : Bool} → IsFound o c → IsFound (cond (bytes_eq text word) (Some x) o) (bytes_eq text word || c)
in_last text word x o e = by_last_test (bytes_eq text word) x o e

pub in_none : {A : Type 0} → IsFound {A = A} None false
in_none = record { is_found = refl }
