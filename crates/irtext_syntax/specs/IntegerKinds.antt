-- For callers: the integer types whose numbers are parts of a text.
use Rattle.std.proofs.Common.{◌≡◌, ◌≤◌, ◌^◌, ℕ, ℤ, Bool, refl}
use Rattle.std.specs.Cmp.{unsigned_Decides, signed_Decides}
use Rattle.std.specs.Ordering.{int_eq}
use Rattle.std.specs.Prelude.{◌↔◌, IsTrue, nat_eq}
use Rattle.irtext_tokens.specs.declared.irfmt.parsers.from_str_radix.FromStrRadix as radix
use Rattle.irtext_tokens.specs.contracts.irfmt.parsers.from_str_radix.U8FromStrRadix.TheImpl as u8_radix
use Rattle.irtext_tokens.specs.contracts.irfmt.parsers.from_str_radix.U8FromStrRadix.TheImpl.Laws as u8_laws
use Rattle.irtext_tokens.specs.contracts.irfmt.parsers.from_str_radix.U16FromStrRadix.TheImpl as u16_radix
use Rattle.irtext_tokens.specs.contracts.irfmt.parsers.from_str_radix.U16FromStrRadix.TheImpl.Laws as u16_laws
use Rattle.irtext_tokens.specs.contracts.irfmt.parsers.from_str_radix.U32FromStrRadix.TheImpl as u32_radix
use Rattle.irtext_tokens.specs.contracts.irfmt.parsers.from_str_radix.U32FromStrRadix.TheImpl.Laws as u32_laws
use Rattle.irtext_tokens.specs.contracts.irfmt.parsers.from_str_radix.U64FromStrRadix.TheImpl as u64_radix
use Rattle.irtext_tokens.specs.contracts.irfmt.parsers.from_str_radix.U64FromStrRadix.TheImpl.Laws as u64_laws
use Rattle.irtext_tokens.specs.contracts.irfmt.parsers.from_str_radix.UsizeFromStrRadix.TheImpl as usize_radix
use Rattle.irtext_tokens.specs.contracts.irfmt.parsers.from_str_radix.UsizeFromStrRadix.TheImpl.Laws as usize_laws
use Rattle.irtext_tokens.specs.contracts.irfmt.parsers.from_str_radix.I8FromStrRadix.TheImpl as i8_radix
use Rattle.irtext_tokens.specs.contracts.irfmt.parsers.from_str_radix.I8FromStrRadix.TheImpl.Laws as i8_laws
use Rattle.irtext_tokens.specs.contracts.irfmt.parsers.from_str_radix.I16FromStrRadix.TheImpl as i16_radix
use Rattle.irtext_tokens.specs.contracts.irfmt.parsers.from_str_radix.I16FromStrRadix.TheImpl.Laws as i16_laws
use Rattle.irtext_tokens.specs.contracts.irfmt.parsers.from_str_radix.I32FromStrRadix.TheImpl as i32_radix
use Rattle.irtext_tokens.specs.contracts.irfmt.parsers.from_str_radix.I32FromStrRadix.TheImpl.Laws as i32_laws
use Rattle.irtext_tokens.specs.contracts.irfmt.parsers.from_str_radix.I64FromStrRadix.TheImpl as i64_radix
use Rattle.irtext_tokens.specs.contracts.irfmt.parsers.from_str_radix.I64FromStrRadix.TheImpl.Laws as i64_laws
use Rattle.irtext_tokens.specs.contracts.irfmt.parsers.from_str_radix.IsizeFromStrRadix.TheImpl as isize_radix
use Rattle.irtext_tokens.specs.contracts.irfmt.parsers.from_str_radix.IsizeFromStrRadix.TheImpl.Laws as isize_laws
use Rattle.irtext_syntax.specs.Numbers.{natural}

-- an integer type: the integer of each value, the value of an integer, and the test for equality; and that each value fits 64 bits, is the
-- value of its integer, and equals no other
pub record Kind (N : Type 0) : Type 1 where
  pub radix : radix.Ghosts N
  pub of : ℤ → N
  pub test : N → N → Bool
  pub narrow : (negative : Bool) → radix.below negative ≤ 2 ^ 64
  pub back : (n : N) → of (radix.number n) ≡ n
  pub decides : (x y : N) → IsTrue (test x y) ↔ (x ≡ y)

abbrev pub u8 : Kind ℕ
u8 = record { radix = u8_radix.ghosts; of = natural; test = nat_eq; narrow = u8_laws.narrow-law; back = λ n. refl; decides = unsigned_Decides }

abbrev pub u16 : Kind ℕ
u16 = record { radix = u16_radix.ghosts; of = natural; test = nat_eq; narrow = u16_laws.narrow-law; back = λ n. refl; decides = unsigned_Decides }

abbrev pub u32 : Kind ℕ
u32 = record { radix = u32_radix.ghosts; of = natural; test = nat_eq; narrow = u32_laws.narrow-law; back = λ n. refl; decides = unsigned_Decides }

abbrev pub u64 : Kind ℕ
u64 = record { radix = u64_radix.ghosts; of = natural; test = nat_eq; narrow = u64_laws.narrow-law; back = λ n. refl; decides = unsigned_Decides }

abbrev pub usize : Kind ℕ
usize = record { radix = usize_radix.ghosts; of = natural; test = nat_eq; narrow = usize_laws.narrow-law; back = λ n. refl; decides = unsigned_Decides }

abbrev pub i8 : Kind ℤ
i8 = record { radix = i8_radix.ghosts; of = λ z. z; test = int_eq; narrow = i8_laws.narrow-law; back = λ n. refl; decides = signed_Decides }

abbrev pub i16 : Kind ℤ
i16 = record { radix = i16_radix.ghosts; of = λ z. z; test = int_eq; narrow = i16_laws.narrow-law; back = λ n. refl; decides = signed_Decides }

abbrev pub i32 : Kind ℤ
i32 = record { radix = i32_radix.ghosts; of = λ z. z; test = int_eq; narrow = i32_laws.narrow-law; back = λ n. refl; decides = signed_Decides }

abbrev pub i64 : Kind ℤ
i64 = record { radix = i64_radix.ghosts; of = λ z. z; test = int_eq; narrow = i64_laws.narrow-law; back = λ n. refl; decides = signed_Decides }

abbrev pub isize : Kind ℤ
isize = record { radix = isize_radix.ghosts; of = λ z. z; test = int_eq; narrow = isize_laws.narrow-law; back = λ n. refl; decides = signed_Decides }
