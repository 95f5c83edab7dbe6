-- How much of a text is left after what precedes an operation's regions, a block's header and a brace.
use Rattle.std.proofs.Common.{◌≡◌, ◌∙◌, ◌<◌, ◌≤◌, ℕ, suc, Bool, true, false, cond, List, [], ◌∷◌, ◌++◌, length, length-append, codes, refl, ap, sym, arith, le_refl}
use Rattle.irtext_base.specs.Text.{Text, begins, after_space}
use Rattle.irtext_base.specs.Format.{Id}
use Rattle.irtext_base.specs.Stream.{StreamView}
use Rattle.irtext_base.specs.Answers.{Outcome, Read, Missing, Bad}
use Rattle.irtext_base.specs.Locations.{AttrView}
use Rattle.irtext_context.specs.Dialects.{Table}
use Rattle.irtext_tokens.specs.Infix.{Reader, ◌▷◌}
use Rattle.irtext_tokens.specs.Tokens as tokens
use Rattle.irtext_tokens.specs.Tokens.{space_at, word}
use Rattle.irtext_tokens.proofs.Honest.{honest_space}
use Rattle.irtext_grammar.specs.declared.parsed.Setting.{Setting}
use Rattle.irtext_grammar.specs.Grammar.Tree as tree
use Rattle.irtext_grammar.specs.Grammar.Tree.{Name, Part, Head}
use Rattle.irtext_grammar.specs.Promises.Section.{Moves}
use Rattle.irtext_grammar.specs.Readers.RestLengths.{Leaves, LeavesNoMore}
use Rattle.irtext_grammar.specs.Readers.Parts.{without_first}
use Rattle.irtext_parse_root.specs.OperationFollows.{operation_follows, text_there}
use Rattle.irtext_tokens.proofs.Spelling.{begins_the}
use Rattle.irtext_grammar.proofs.Locations.RestLengths.{space_bound, Within, within_honest, ◌so◌, ◌then◌, leaves_read}
use Rattle.irtext_grammar.specs.Heads.{Step, head_at, led_at}
use Rattle.irtext_grammar.specs.Resume.{front_at}
use Rattle.irtext_grammar.proofs.Knot.Leaving.{brace_leaves, piece_within, head_leaves, led_leaves}

-- what was passed is not longer
pub moves_fewer : (old new : StreamView) → Moves old new → length new.rest ≤ length old.rest
moves_fewer old new m = let e = ap length m.takes.same in let n = length-append m.taken new.rest in omega (arith, e, n)

-- if the text is not empty, less of it is left
less_left : {X : Type 0} (o : Outcome X) (text : Text) → ((b : ℕ) → length text ≤ suc b → Leaves b o) → begins (λ z. true) text ≡ true → (x : X) (taken rest : Text) → o ≡ Read x taken rest → length rest < length text
less_left o [] h b x taken rest e = absurd (cc b)
less_left o (d ∷ text) h b x taken rest e = let k = (h (length text) (le_refl (suc (length text)))).by x taken rest e in omega (arith, k)

-- a text that begins with a character has one
pub some_character : (test : ℕ → Bool) (text : Text) → begins test text ≡ true → begins (λ z. true) text ≡ true
some_character test [] b = absurd (cc b)
some_character test (c ∷ text) b = refl

module _ {T A : Type 0} {types_at : Reader T} {attr : Reader (AttrView A)} (no_more : LeavesNoMore types_at) (none_more : LeavesNoMore attr) where
  front_within : (b : ℕ) (at : Setting) (ss : List Step) (found : List (Part ℕ T A)) → Within b (front_at types_at attr at ss found)
  front_within b at [] found = record { leaves = λ text l. leaves_read b found [] text l }
  front_within b at (step ∷ ss) found =
      ◌so◌ (◌then◌ (within_honest honest_space) (piece_within no_more none_more at step)) (λ p. front_within b at ss (found ++ tree.piece p ∷ []))

  -- pieces before regions
  pub front_fewer : (at : Setting) (ss : List Step) (text : Text) (parts : List (Part ℕ T A)) (taken rest : Text) → front_at types_at attr at ss [] text ≡ Read parts taken rest → length rest ≤ length text
  front_fewer at ss text parts taken rest e = ((front_within (length text) at ss []).leaves text (le_refl (length text))).by parts taken rest e

  -- a block's header
  pub head_fewer : (text : Text) (h : Head ℕ T A) (taken rest : Text) → begins (λ z. true) text ≡ true → head_at types_at attr text ≡ Read h taken rest → length rest < length text
  head_fewer text h taken rest b e = less_left (head_at types_at attr text) text (λ n l. head_leaves no_more none_more text l) b h taken rest e

-- an operation's names and id
pub led_fewer : (dialects : List (Text × Table)) (text : Text) (lead : List (Name ℕ) × Id) (taken rest : Text) → begins (λ z. true) text ≡ true → led_at dialects text ≡ Read lead taken rest → length rest < length text
led_fewer dialects text lead taken rest b e = less_left (led_at dialects text) text (λ n l. led_leaves n dialects text l) b lead taken rest e

-- whether something was parsed
abbrev is_read : {X : Type 0} → Outcome X → Bool
is_read (Read x taken rest) = true
is_read (Missing cause) = false
is_read (Bad cause upto) = false

-- an empty text has no lead
pub led_some : (dialects : List (Text × Table)) (text : Text) (lead : List (Name ℕ) × Id) (taken rest : Text) → led_at dialects text ≡ Read lead taken rest → begins (λ z. true) text ≡ true
unfolding tokens.word_at tokens.id_at
led_some dialects [] lead taken rest e =
    let none : is_read (led_at dialects []) ≡ false = refl in
    let some : is_read (led_at dialects []) ≡ true = ap is_read e in
    let both : false ≡ true = sym none ∙ some in
    absurd (cc both)
led_some dialects (c ∷ text) lead taken rest e = refl

-- a region's brace
pub brace_fewer : (text : Text) (x : Unit {0}) (taken rest : Text) → (word (codes "{") ▷ space_at) text ≡ Read x taken rest → length rest < length text
brace_fewer [] x taken rest e = absurd (cc e)
brace_fewer (c ∷ text) x taken rest e = less_left ((word (codes "{") ▷ space_at) (c ∷ text)) (c ∷ text) (λ n l. brace_leaves n (c ∷ text) l) refl x taken rest e

-- what follows `;`
pub semicolon_fewer : (text rest : Text) → operation_follows false text ≡ true → rest ≡ text_there false text → length rest < length text
semicolon_fewer text rest one_is at =
    let s = begins_the 59 (after_space text) one_is in
    let e : rest ≡ after_space s.0 = at ∙ (ap (λ b. cond b (after_space (without_first (after_space text))) (after_space text)) one_is ∙ ap (λ t. after_space (without_first t)) s.1) in
    let m = ap length e in
    let n = space_bound (length s.0) s.0 (le_refl (length s.0)) in
    let o = ap length s.1 in
    let q = space_bound (length text) text (le_refl (length text)) in
    omega (arith, m, n, o, q)
