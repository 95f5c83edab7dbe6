-- The parser of an operation's lead returns what the grammar parses before the operation's parts: the names of its results, and its id.
use Rattle.std.proofs.Common.{◌≡◌, ◌∙◌, ℕ, Bool, true, false, cond, List, Option, Some, None, [], ◌∷◌, ◌++◌, map, refl, sym, ap, ap₂, subst, inl, inr, is_some, true≢false}
use Rattle.std.specs.Prelude.{codes, option_and_then}
use Rattle.std.specs.Option.{option_map}
use Rattle.std.specs.Char.{is_whitespace}
use Rattle.std.specs.Map.{lookup}
use Rattle.irtext_base.specs.Text.{Text, front, after, after_space}
use Rattle.irtext_base.specs.Reading.{Reading, ◌▸◌, literal, separated}
use Rattle.irtext_base.specs.Faults.{UnregisteredDialect, UnregisteredOp}
use Rattle.irtext_base.specs.Format.{Id, Format}
use Rattle.irtext_base.specs.Answers.{Outcome, Read, Missing, Bad, mapped, followed, prefixed}
use Rattle.irtext_base.specs.Own.{Texts, Language, language}
use Rattle.irtext_context.specs.Dialects.{Known, Table, same_id}
use Rattle.irtext_context.specs.DialectTable as table
use Rattle.irtext_context.specs.DialectTable.{dialect_of}
use Rattle.irtext_tokens.specs.Tokens.{space_at, id_at}
use Rattle.irtext_grammar.specs.Contexts.Formats.{op_id, format_of}
use Rattle.irtext_grammar.specs.Grammar.Reads as reads
use Rattle.irtext_grammar.specs.Grammar.Tree.{Name}
use Rattle.irtext_grammar.specs.Readers.Parts.{after_lead}
use Rattle.irtext_grammar.specs.Readers.Operations.{registered_after}
use Rattle.irtext_grammar.proofs.Joins.Answers.{followed_read, followed-read, mapped_read}
use Rattle.irtext_grammar.proofs.Joins.Lead.{format_known}
use Rattle.irtext_grammar.proofs.Joins.Tokens.{id_read, id_found, splits_space, splits_id}
use Rattle.irtext_grammar.specs.Exact.{Exact, registered_lead}
use Rattle.irtext_grammar.specs.Heads.{results_at, named, lead_at, led_by, led_at}
use Rattle.irtext_grammar.proofs.Exact.Combined.{exact_word, exact_before, split_after_front}
use Rattle.irtext_grammar.proofs.Exact.Listed.{exact_list, loosened, tightened}
use Rattle.irtext_grammar.proofs.Exact.Names.{exact_name, starts_name}

-- ---- names and `=`
module _ {T A : Type 0} (types : Texts T) (owns : Texts A) (formats : Id → Option Format) where
  abbrev l : Language ℕ T A
  l = language types owns formats

  -- names and `=` with no white space between
  abbrev tight : List (Name ℕ) → Reading
  tight ns = separated 44 reads.no_word (map (reads.name l) ns) ▸ literal (codes "=")

  exact_results : Exact results_at tight
  exact_results = exact_before (exact_list 44 (exact_name types owns formats) starts_name) (exact_word (codes "="))

  -- results that parse after white space are those that the grammar parses
  results_read : (text : Text) (ns : List (Name ℕ)) (taken rest : Text) → results_at (after_space text) ≡ Read ns taken rest → reads.results l ns (after_space text) rest × (taken ++ rest ≡ after_space text)
  results_read text ns taken rest e =
      let k = exact_results.read (after_space text) ns taken rest e in
      (loosened 44 (exact_name types owns formats) starts_name ns (literal (codes "=")) text rest k.0, k.1)

  -- and conversely
  results_found : (text : Text) (ns : List (Name ℕ)) (rest : Text) → reads.results l ns (after_space text) rest → (taken : Text) × (results_at (after_space text) ≡ Read ns taken rest)
  results_found text ns rest r = exact_results.found (after_space text) ns rest (tightened 44 (exact_name types owns formats) starts_name ns (literal (codes "=")) text rest r)

  -- the names of results, if there are any, are parsed as the grammar parses them
  named_read : (text : Text) (ns : List (Name ℕ)) (taken rest : Text) → named (results_at (after_space text)) (after_space text) ≡ Read ns taken rest
      → reads.results_if l ns (after_space text) rest × (taken ++ rest ≡ after_space text)
  named_read text ns taken rest e = go (results_at (after_space text)) refl e
    where
      none : (o : Outcome (List (Name ℕ))) → results_at (after_space text) ≡ o → ((others : List (Name ℕ)) (more left : Text) → o ≡ Read others more left → ⊥) → ◌≡◌ {A = Outcome (List (Name ℕ))} (Read [] [] (after_space text)) (Read ns taken rest)
          → reads.results_if l ns (after_space text) rest × (taken ++ rest ≡ after_space text)
      none o f never e =
          let empty : [] ≡ ns = cc e in
          let nothing : [] ≡ taken = cc e in
          let all : after_space text ≡ rest = cc e in
          (inr (sym empty, sym all, λ others left r. let k = results_found text others left r in never others k.0 left (sym f ∙ k.1)), sym (ap₂ ◌++◌ nothing all))

      go : (o : Outcome (List (Name ℕ))) → results_at (after_space text) ≡ o → named o (after_space text) ≡ Read ns taken rest → reads.results_if l ns (after_space text) rest × (taken ++ rest ≡ after_space text)
      go (Read xs a r) f e = let k = results_read text ns taken rest (f ∙ e) in (inl k.0, k.1)
      go (Missing cause) f e = none (Missing cause) f (λ others more left g. cc g) e
      go (Bad cause upto) f e = none (Bad cause upto) f (λ others more left g. cc g) e

  named_found : (text : Text) (ns : List (Name ℕ)) (rest : Text) → reads.results_if l ns (after_space text) rest → (taken : Text) × (named (results_at (after_space text)) (after_space text) ≡ Read ns taken rest)
  named_found text ns rest (inl r) = let k = results_found text ns rest r in (k.0, ap (λ o. named o (after_space text)) k.1)
  named_found text ns rest (inr (empty, e, others)) = ([], go (results_at (after_space text)) refl ∙ (ap (λ ns. Read ns [] (after_space text)) (sym empty) ∙ ap (Read ns []) (sym e)))
    where
      go : (o : Outcome (List (Name ℕ))) → results_at (after_space text) ≡ o → named o (after_space text) ≡ Read [] [] (after_space text)
      go (Read xs a r) f = absurd (others xs r (results_read text xs a r f).0)
      go (Missing cause) f = refl
      go (Bad cause upto) f = refl

  -- white space, names of results if there are any, and white space
  abbrev lead_read : List (Name ℕ) → Reading
  lead_read ns text rest = (mid : Text) × reads.results_if l ns (after_space text) mid × (rest ≡ after_space mid)

  abbrev space_next : List (Name ℕ) → Text → Outcome (List (Name ℕ))
  space_next ns text = mapped (λ _. ns) (space_at text)

  abbrev named_next : Unit {0} → Text → Outcome (List (Name ℕ))
  named_next u text = followed (named (results_at text) text) space_next

  exact_lead : Exact lead_at lead_read
  exact_lead = record { read = there; found = back }
    where
      there : (text : Text) (ns : List (Name ℕ)) (taken rest : Text) → lead_at text ≡ Read ns taken rest → lead_read ns text rest × (taken ++ rest ≡ text)
      there text ns taken rest e =
          let a = followed_read (space_at text) named_next ns taken rest e in
          let spaced : after is_whitespace text ≡ a.middle = cc a.first in
          let b = followed_read (named (results_at a.middle) a.middle) space_next ns a.more rest a.second in
          let c = mapped_read (λ _. b.value) (space_at b.middle) ns b.more rest b.second in
          let after_lead : after is_whitespace b.middle ≡ rest = cc c.1 in
          let k = named_read text b.value b.front b.middle (subst (λ t. named (results_at t) t ≡ Read b.value b.front b.middle) (sym spaced) b.first) in
          let inner = split_after_front a.middle b.front b.middle b.more rest a.more (k.1 ∙ spaced) (splits_space b.middle c.0 b.more rest c.1) b.whole in
          ((b.middle, subst (λ ns. reads.results_if l ns (after_space text) b.middle) c.2 k.0, sym after_lead), split_after_front text a.front a.middle a.more rest taken (splits_space text a.value a.front a.middle a.first) inner a.whole)

      back : (text : Text) (ns : List (Name ℕ)) (rest : Text) → lead_read ns text rest → (taken : Text) × (lead_at text ≡ Read ns taken rest)
      back text ns rest (m, r, e) =
          let k = named_found text ns m r in (
            front is_whitespace text ++ (k.0 ++ front is_whitespace m),
            followed-read (space_at text) named_next tt ns (front is_whitespace text) (after_space text) (k.0 ++ front is_whitespace m) rest refl
                (followed-read (named (results_at (after_space text)) (after_space text)) space_next ns ns k.0 m (front is_whitespace m) rest k.1 (ap (Read ns (front is_whitespace m)) (sym e))),
          )

-- ---- a registered operation
-- what follows a lead, with the lead itself
after_read : {X : Type 0} (lead : Text) (o : Outcome X) (x : X) (taken rest : Text) → after_lead lead o ≡ Read x taken rest → (a : Text) × (o ≡ Read x a rest) × (taken ≡ lead ++ a)
after_read [] o x taken rest e = (taken, e, refl)
after_read (c ∷ lead) o x taken rest e =
    let a = followed_read (Read (tt {0}) (c ∷ lead) []) (λ _ _. o) x taken rest e in
    (a.more, a.second, sym a.whole ∙ ap (λ t. t ++ a.more) (let f : c ∷ lead ≡ a.front = cc a.first in sym f))

-- and from before it
after_found : {X : Type 0} (lead : Text) (o : Outcome X) (x : X) (a rest : Text) → o ≡ Read x a rest → after_lead lead o ≡ Read x (lead ++ a) rest
after_found [] o x a rest e = e
after_found (c ∷ lead) o x a rest e = ap (prefixed (c ∷ lead)) e

formatted : (o : Option Known) → is_some o ≡ true → (f : Format) × (option_map (λ known. known.format) o ≡ Some f)
formatted None e = absurd (true≢false (sym e))
formatted (Some known) e = (known.format, refl)

has_dialect : (o : Option Table) (id : Id) → is_some (option_and_then (λ table. lookup (same_id (op_id id)) table.entries) o) ≡ true → is_some o ≡ true
has_dialect None id e = e
has_dialect (Some table) id e = refl

module _ (dialects : List (Text × Table)) where
  registered_read : (lead : Text) (o : Outcome Id) (i : Id) (taken rest : Text) → registered_after dialects lead o ≡ Read i taken rest → (o ≡ Read i taken rest) × (is_some (table.registered dialects (op_id i)) ≡ true)
  registered_read lead (Read j a r) i taken rest e = go (is_some (dialect_of dialects j.dialect)) (is_some (table.registered dialects (op_id j))) refl e
    where
      go : (b c : Bool) → is_some (table.registered dialects (op_id j)) ≡ c → cond b (cond c (Read j a r) (Bad (UnregisteredOp j) [])) (Bad (UnregisteredDialect j.dialect) lead) ≡ Read i taken rest
          → (Read j a r ≡ Read i taken rest) × (is_some (table.registered dialects (op_id i)) ≡ true)
      go true true g e = (e, let h : j ≡ i = cc e in subst (λ i. is_some (table.registered dialects (op_id i)) ≡ true) h g)
      go true false g e = absurd (cc e)
      go false c g e = absurd (cc e)
  registered_read lead (Missing cause) i taken rest e = absurd (cc e)
  registered_read lead (Bad cause upto) i taken rest e = absurd (cc e)

  registered_found : (lead : Text) (o : Outcome Id) (i : Id) (taken rest : Text) → o ≡ Read i taken rest → is_some (table.registered dialects (op_id i)) ≡ true → registered_after dialects lead o ≡ Read i taken rest
  registered_found lead o i taken rest e k = ap (registered_after dialects lead) e ∙ rw (has_dialect (dialect_of dialects i.dialect) i k, k) refl

  module _ {T A : Type 0} (types : Texts T) (owns : Texts A) where
    -- An operation's lead is parsed where the grammar parses it and its operation is registered, and nowhere else.
    pub exact_led : Exact (led_at dialects) (registered_lead (language types owns (format_of dialects)))
    exact_led = record { read = λ text x taken rest e. there text x taken rest (lead_at text) refl e; found = back }
      where
        there : (text : Text) (x : List (Name ℕ) × Id) (taken rest : Text) (o : Outcome (List (Name ℕ))) → lead_at text ≡ o → led_by dialects o ≡ Read x taken rest
            → registered_lead (language types owns (format_of dialects)) x text rest × (taken ++ rest ≡ text)
        there text x taken rest (Read ns lead mid) f e =
            let m = mapped_read (λ i. (ns, i)) (registered_after dialects lead (after_lead lead (id_at mid))) x taken rest e in
            let r = registered_read lead (after_lead lead (id_at mid)) m.0 taken rest m.1 in
            let b = after_read lead (id_at mid) m.0 taken rest r.0 in
            let k = (exact_lead types owns (format_of dialects)).read text ns lead mid f in
            let i = subst (λ t. reads.id m.0 t rest) k.0.2 (id_read mid m.0 b.0 rest b.1) in (
              subst (λ x. registered_lead (language types owns (format_of dialects)) x text rest) m.2 (formatted (table.registered dialects (op_id m.0)) r.1, (k.0.0, k.0.1, i)),
              split_after_front text lead mid b.0 rest taken k.1 (splits_id mid m.0 b.0 rest b.1) (sym b.2),
            )
        there text x taken rest (Missing cause) f e = absurd (cc e)
        there text x taken rest (Bad cause upto) f e = absurd (cc e)

        back : (text : Text) (x : List (Name ℕ) × Id) (rest : Text) → registered_lead (language types owns (format_of dialects)) x text rest → (taken : Text) × (led_at dialects text ≡ Read x taken rest)
        back text x rest ((f, known), (m, r, i)) =
            let k = (exact_lead types owns (format_of dialects)).found text x.0 (after_space m) (m, r, refl) in
            let a = id_found (after_space m) x.1 rest i in (
              k.0 ++ a.0,
              ap (led_by dialects) k.1 ∙ ap (mapped (λ i. (x.0, i))) (registered_found k.0 (after_lead k.0 (id_at (after_space m))) x.1 (k.0 ++ a.0) rest
                  (after_found k.0 (id_at (after_space m)) x.1 a.0 rest a.1) (format_known dialects x.1 f known)),
            )
