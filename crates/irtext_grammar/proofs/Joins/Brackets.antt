-- What the parser of a list in brackets returns, and the grammar's readings of the list.
use Rattle.std.proofs.Common.{◌≡◌, ◌∙◌, inl, inr, ℕ, true, Some, List, ◌∷◌, ◌++◌, [], map, length, codes, refl, sym, ap, subst}
use Rattle.std.specs.Char.{is_whitespace}
use Rattle.std.specs.List.{list_all}
use Rattle.irtext_base.specs.Text.{Text, front, after_space}
use Rattle.irtext_base.specs.Reading.{Reading, ◌▹◌, literal, separated}
use Rattle.irtext_base.specs.Answers.{Outcome, Read, Bad, mapped, followed}
use Rattle.irtext_base.proofs.Along.{front_after}
use Rattle.irtext_tokens.specs.Infix.{Reader}
use Rattle.irtext_tokens.specs.ListOutcomes.{separated_at}
use Rattle.irtext_tokens.specs.Tokens.{space_at, text_at}
use Rattle.irtext_grammar.specs.Names.Script.{Failure}
use Rattle.irtext_grammar.proofs.Joins.Answers.{followed_read, followed-read, mapped_read, splits_followed, splits_mapped}
use Rattle.irtext_grammar.proofs.Joins.Lists.{Items, Stop, ListFound, all_fine, one_stops, list_read, list_found, list_tight, splits_separated}
use Rattle.irtext_grammar.proofs.Joins.Tokens.{text_read, text-literal, splits_text, splits_space}
use Rattle.irtext_grammar.specs.Agrees.{StopsAt, ReadOrStops}
use Rattle.irtext_grammar.specs.Entries.{fault_for}
use Rattle.irtext_grammar.proofs.Stops.{stops_first, stops_second}

-- if a list stops at an item, and that item's failure is the first of all, the list stops at the first failure
pub stop_fails : {X : Type 0} (i : Items X X) (xs : List X) (text : Text) (o : Outcome (List X)) (k : Stop 44 i xs text o) (first : Failure Text ℕ) (others fs : List (Failure Text ℕ)) → fs ≡ first ∷ others → first.at ≡ Some (length k.at.text)
    → i.wrong k.at.item ≡ fault_for first.cause → StopsAt text o fs
stop_fails i xs text o k first others fs is at wrong = record {
  first = first;
  others = others;
  is = is;
  upto = k.upto;
  stop = k.at.text;
  splits = k.splits;
  at = at;
  bad = k.is ∙ ap (λ f. Bad f k.upto) wrong;
}

module _ {X : Type 0} (i : Items X X) (seen : (xs : List X) → map i.see xs ≡ xs) where
  abbrev list_at : Reader (List X)
  list_at text = separated_at 44 i.item text

  abbrev close_next : List X → Text → Outcome (List X)
  close_next xs text = mapped (λ _. xs) (text_at (codes "]") text)

  abbrev list_next : Unit {0} → Text → Outcome (List X)
  list_next _ text = followed (list_at text) close_next

  abbrev space_next : Unit {0} → Text → Outcome (List X)
  space_next _ text = followed (space_at text) list_next

  -- the parser of the items in brackets
  abbrev bracketed_at : Reader (List X)
  bracketed_at text = followed (text_at (codes "[") text) space_next

  -- as the grammar reads them
  abbrev bracketed : List X → Reading
  bracketed xs = literal (codes "[") ▹ separated 44 i.missing (map i.reading xs) ▹ literal (codes "]")

  -- what is accepted the grammar reads, and each item is allowed
  pub bracketed_read : (text : Text) (xs : List X) (taken rest : Text) → bracketed_at text ≡ Read xs taken rest → bracketed xs text rest × (taken ++ rest ≡ text) × (list_all i.allowed xs ≡ true)
  bracketed_read text xs taken rest e =
      let a = followed_read (text_at (codes "[") text) space_next xs taken rest e in
      let b = followed_read (space_at a.middle) list_next xs a.more rest a.second in
      let c = followed_read (list_at b.middle) close_next xs b.more rest b.second in
      let d = mapped_read (λ _. c.value) (text_at (codes "]") c.middle) xs c.more rest c.second in
      let k = list_read 44 i b.middle c.value c.front c.middle c.first in
      let items : k.items ≡ xs = sym (seen k.items) ∙ (k.whole ∙ d.2) in
      let inside : after_space a.middle ≡ b.middle = cc b.first in
      let listed : separated 44 i.missing (map i.reading k.items) (after_space a.middle) c.middle = subst (λ t. separated 44 i.missing (map i.reading k.items) t c.middle) (sym inside) k.read in
      let tight : after_space c.middle ≡ c.middle = list_tight 44 i k.items a.middle c.middle listed in
      let close : literal (codes "]") (after_space c.middle) rest = subst (λ t. literal (codes "]") t rest) (sym tight) (text_read (codes "]") c.middle c.more rest d.1) in (
        (
          a.middle,
          text_read (codes "[") text a.front a.middle a.first,
          (c.middle, subst (λ qs. separated 44 i.missing (map i.reading qs) (after_space a.middle) c.middle) items listed, close),
        ),
        splits_followed (text_at (codes "[")) space_next (splits_text (codes "[")) (λ _. splits_followed space_at list_next splits_space
            (λ _. splits_followed list_at close_next (splits_separated 44 i.item i.splits) (λ qs. splits_mapped (λ _. qs) (text_at (codes "]")) (splits_text (codes "]"))))) text xs taken rest e,
        subst (λ qs. list_all i.allowed qs ≡ true) items k.fine,
      )

  -- what the grammar reads is accepted, up to the first item that is not allowed
  pub bracketed_found : (text : Text) (xs : List X) (rest : Text) → bracketed xs text rest → (fs : List (Failure Text ℕ)) → (list_all i.allowed xs ≡ true → fs ≡ []) → ((t : Text) (o : Outcome (List X)) → Stop 44 i xs t o → StopsAt t o fs)
      → ReadOrStops text (bracketed_at text) xs rest fs
  bracketed_found text xs rest (m, a, (k, s, c)) fs none stops = go (list_found 44 i xs (after_space m) k s)
    where
      go : ListFound 44 i [] xs (after_space m) k (list_at (after_space m)) → ReadOrStops text (bracketed_at text) xs rest fs
      go (all_fine f taken e) =
          let close : literal (codes "]") k rest = subst (λ t. literal (codes "]") t rest) (list_tight 44 i xs m k s) c in
          let is : list_at (after_space m) ≡ Read xs taken k = e ∙ ap (λ z. Read z taken k) (seen xs) in
          inl (
            none f,
            (
              codes "[" ++ (front is_whitespace m ++ (taken ++ codes "]")),
              followed-read (text_at (codes "[") text) space_next tt xs (codes "[") m (front is_whitespace m ++ (taken ++ codes "]")) rest (text-literal (codes "[") text m a)
                  (followed-read (space_at m) list_next tt xs (front is_whitespace m) (after_space m) (taken ++ codes "]") rest refl
                  (followed-read (list_at (after_space m)) close_next xs xs taken k (codes "]") rest is (ap (mapped (λ _. xs)) (text-literal (codes "]") k rest close)))),
            ),
          )
      go (one_stops q) =
          inr (stops_second space_next (text_at (codes "[") text) tt (codes "[") m text (text-literal (codes "[") text m a) (sym a)
          (stops_second list_next (space_at m) tt (front is_whitespace m) (after_space m) m refl (front_after is_whitespace m)
          (stops_first close_next (stops (after_space m) (list_at (after_space m)) q))))
