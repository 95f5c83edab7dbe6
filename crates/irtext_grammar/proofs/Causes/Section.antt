-- The causes that the parsers of locations and of the section return, and their places.
use Rattle.std.proofs.Common.{ℕ, zero, suc, Bool, not, ◌&&◌, Some, None, List, [], ◌∷◌, ◌++◌, length, codes, refl, subst}
use Rattle.std.proofs.lemmas.List.{take-append-drop}
use Rattle.std.specs.Prelude.{◌-◌, Option, take, drop}
use Rattle.irtext_base.specs.Text.{Text, begins}
use Rattle.irtext_base.specs.Reading.{the}
use Rattle.irtext_base.specs.Faults.{Unexpected, Demand, ASource, ALocation}
use Rattle.irtext_base.specs.Stream.{first_of}
use Rattle.irtext_base.specs.Answers.{Outcome, Read, Missing, Bad}
use Rattle.irtext_base.specs.Locations.{AttrView, fused, named, call_site, unknown, no_location, location}
use Rattle.irtext_base.specs.Paths.{Written}
use Rattle.irtext_tokens.specs.Infix.{Reader}
use Rattle.irtext_grammar.specs.Grammar.Section.{Item, Entry}
use Rattle.irtext_grammar.specs.Grammar.Tree.{Name, Mark}
use Rattle.irtext_grammar.specs.Names.Acts.{Rule}
use Rattle.irtext_grammar.specs.Names.Script.{Cause, Failure}
use Rattle.irtext_grammar.specs.Readers.Positions.{labelled_at, position_at}
use Rattle.irtext_grammar.specs.Readers.Locations.{WrittenRow, bytes_at, source_at, name_at, place_at, metadata_at, after_location, row_of, row_at, more_at, fused_at, named_at, call_site_at, kind_at, location_within, more_within, location_at}
use Rattle.irtext_grammar.specs.Readers.Section.{entry_location_at}
use Rattle.irtext_grammar.specs.Entries.{item_at, pair_at, is_allowed, kept, begins_given, tested, entry_head_at, pairs_at, given_at, entry_at, may_have, fault_for, upto, wrong_references, unless_wrong, referred, entries_after, entries_at, section_at}
use Rattle.irtext_grammar.proofs.OwnCauses.{own_and_named}
use Rattle.irtext_grammar.proofs.Causes.Outcomes.{Allowed, Obeys, AllObey, obeys_read, obeys_bad, obeys_either, obeys_prefixed, obeys_followed, ◌then◌, ◌kept◌, ◌so◌, seen, obeying_either, obeying_nothing, misses}
use Rattle.irtext_grammar.proofs.Causes.Tokens.{obeying_word, obeying_space, obeying_integer, obeying_quoted, obeying_spaced, obeying_separated}
use Rattle.irtext_grammar.proofs.Causes.Parts.{name_obeys, mark_obeys, attribute_obeys}

module _ {K : Allowed} where
  demand_obeys : {X : Type 0} (demand : Demand) → AllObey {X = X} K (λ text. Missing (Unexpected (first_of text) demand))
  demand_obeys demand = record { at = λ text. misses text _ refl }

  -- ---- positions, and the parts of locations
  labelled_obeys : (w : Text) → AllObey K (labelled_at w)
  labelled_obeys w = ◌then◌ (obeying_word w) (◌then◌ (obeying_spaced (codes ":")) obeying_integer)

  position_obeys : AllObey K position_at
  position_obeys = ◌so◌ (labelled_obeys (codes "line")) (λ line. ◌then◌ (obeying_spaced (codes ",")) (seen _ (labelled_obeys (codes "column"))))

  bytes_obey : AllObey K bytes_at
  bytes_obey = seen _ obeying_quoted

  source_obeys : AllObey K source_at
  source_obeys = obeying_either _ (seen _ bytes_obey) (obeying_either _ (seen _ (obeying_word (codes "<in-memory>"))) (demand_obeys ASource))

  title_obeys : AllObey K name_at
  title_obeys = ◌then◌ (obeying_word (codes "name")) (◌then◌ (obeying_spaced (codes ":")) (◌so◌ bytes_obey (λ name.
      ◌then◌ (obeying_spaced (codes ",")) (◌then◌ (obeying_word (codes "loc")) (◌then◌ (obeying_spaced (codes ":")) (seen _ (obeying_word (codes "("))))))))

  place_obeys : {A : Type 0} → AllObey K (place_at {A = A})
  place_obeys = ◌so◌ source_obeys (λ s. ◌then◌ (obeying_spaced (codes ":")) (seen _ position_obeys))

  -- ---- locations, where attributes obey
  module _ {A : Type 0} {attr : Reader (AttrView A)} (h : AllObey K attr) where
    metadata_obeys : AllObey K (metadata_at attr)
    metadata_obeys = obeying_either _ (◌then◌ (obeying_word (codes "<")) (◌then◌ obeying_space (◌so◌ h (λ a.
        ◌then◌ obeying_space (seen (λ _. Some a) (obeying_word (codes ">"))))))) (obeying_nothing None)

    module _ {inner : Reader (Written A)} {more : Reader (WrittenRow A)} (i : AllObey K inner) (m : AllObey K more) where
      after_obeys : (l : Written A) → AllObey K (after_location inner more l)
      after_obeys l = ◌then◌ obeying_space (seen (location l) m)

      row_of_obeys : (text : Text) (o : Outcome (Written A)) → Obeys K text o → Obeys K text (row_of inner more o text)
      row_of_obeys text (Read l taken rest) k = subst (λ z. Obeys K z (row_of inner more (Read l taken rest) text)) k.says (obeys_prefixed taken rest (after_location inner more l rest) ((after_obeys l).at rest))
      row_of_obeys text (Missing cause) k = obeys_read text no_location [] text refl
      row_of_obeys text (Bad cause upto) k = obeys_bad text cause upto k.says.0 k.says.1 k.says.2

      row_obeys : AllObey K (row_at inner more)
      row_obeys = record { at = λ text. row_of_obeys text (inner text) (i.at text) }

      more_obeys : AllObey K (more_at inner more)
      more_obeys = obeying_either _ (◌then◌ (obeying_word (codes ",")) (◌then◌ obeying_space (◌so◌ i after_obeys))) (obeying_nothing no_location)

      fused_obeys : AllObey K (fused_at inner more attr)
      fused_obeys = ◌then◌ (obeying_word (codes "fused")) (◌then◌ obeying_space (◌so◌ metadata_obeys (λ a.
          ◌then◌ (obeying_word (codes "[")) (◌then◌ obeying_space (◌so◌ row_obeys (λ ls. seen (λ _. fused a ls) (obeying_word (codes "]"))))))))

      named_obeys : AllObey K (named_at inner more)
      named_obeys = ◌so◌ title_obeys (λ name. ◌so◌ i (λ l. seen (λ _. named name l) (obeying_word (codes ")"))))

      call_site_obeys : AllObey K (call_site_at inner more)
      call_site_obeys = ◌then◌ (obeying_word (codes "callsite")) (◌then◌ (obeying_spaced (codes "(")) (◌so◌ i (λ callee.
          ◌then◌ (obeying_spaced (codes "at")) (◌so◌ i (λ caller. seen (λ _. call_site callee caller) (obeying_spaced (codes ")")))))))

      kind_obeys : AllObey K (kind_at inner more attr)
      kind_obeys = obeying_either _ place_obeys (obeying_either _ fused_obeys (obeying_either _ named_obeys (obeying_either _ call_site_obeys
          (obeying_either _ (seen (λ _. unknown) (obeying_word (codes "?"))) (demand_obeys ALocation)))))

    mutual
      within_obeys : (n : ℕ) → AllObey K (location_within attr n)
      within_obeys zero = demand_obeys ALocation
      within_obeys (suc n) = kind_obeys (within_obeys n) (more_within_obeys n)

      more_within_obeys : (n : ℕ) → AllObey K (more_within attr n)
      more_within_obeys zero = obeying_nothing no_location
      more_within_obeys (suc n) = more_obeys (within_obeys n) (more_within_obeys n)

    location_obeys : AllObey K (location_at attr)
    location_obeys = record { at = λ text. (within_obeys (length text)).at text }

    -- ---- entries
    entry_location_obeys : AllObey K (entry_location_at attr)
    entry_location_obeys = obeying_either _ (◌then◌ (obeying_word (codes "@[")) (◌then◌ obeying_space (◌so◌ location_obeys (λ l.
        ◌then◌ (obeying_spaced (codes "]")) (◌then◌ (obeying_word (codes ",")) (seen (λ _. Some l) obeying_space)))))) (obeying_nothing None)

    item_obeys : AllObey K (item_at attr)
    item_obeys = obeying_either _ (seen _ mark_obeys) (seen _ (attribute_obeys h))

    pair_obeys : AllObey K (pair_at attr)
    pair_obeys = ◌so◌ name_obeys (λ key. ◌then◌ (obeying_spaced (codes "=")) (seen _ item_obeys))

    kept_obeys : (rule : Rule A) (text : Text) (o : Outcome (Name ℕ × Item ℕ A)) → Obeys K text o → Obeys K text ((kept) rule o)
    kept_obeys rule text (Read p taken rest) k = obeys_either text (is_allowed rule p) _ _ k (obeys_bad text _ [] text refl (K.name text _ [] text refl refl))
    kept_obeys rule text (Missing cause) k = k
    kept_obeys rule text (Bad cause upto) k = k

    pairs_obey : (rule : Rule A) → AllObey K (pairs_at attr rule)
    unfolding pairs_at
    pairs_obey rule = ◌then◌ (obeying_word (codes "[")) (◌then◌ obeying_space (◌kept◌
        (obeying_separated 44 (λ t. (kept) rule (pair_at attr t)) (record { at = λ text. kept_obeys rule text (pair_at attr text) (pair_obeys.at text) })) (obeying_word (codes "]"))))

    given_obeys : (rule : Rule A) → AllObey K (given_at attr rule)
    given_obeys rule = ◌so◌ entry_location_obeys (λ l. seen _ (pairs_obey rule))

    tested_obeys : (test : ℕ → Bool) (text : Text) (o : Outcome (Mark ℕ)) → Obeys K text o → Obeys K text (tested test o)
    tested_obeys test text (Read m taken rest) k = obeys_either text (begins_given rest && not (test m.index)) _ _ (obeys_bad text _ [] text refl (K.name text _ [] text refl refl)) k
    tested_obeys test text (Missing cause) k = k
    tested_obeys test text (Bad cause upto) k = k

    entry_head_obeys : AllObey K entry_head_at
    entry_head_obeys = ◌kept◌ mark_obeys (obeying_spaced (codes "="))

    entry_obeys : (test : ℕ → Bool) (rules : ℕ → Rule A) → AllObey K (entry_at attr test rules)
    entry_obeys test rules = ◌so◌ (record { at = λ text. tested_obeys test text (entry_head_at text) (entry_head_obeys.at text) }) (λ m.
        obeying_either begins_given (seen _ (given_obeys (rules m.index))) (seen _ (attribute_obeys h)))

    -- ---- the section
    stop_obeys : {X : Type 0} (text : Text) (cause : Cause Text) (place : Option ℕ) → Obeys {X = X} K text (Bad (fault_for cause) (upto text place))
    stop_obeys text cause None = obeys_bad text _ [] text refl (K.name text _ [] text (own_and_named cause).1 refl)
    stop_obeys text cause (Some place) = let e = take-append-drop (length text - place) text in
        obeys_bad text _ (take (length text - place) text) (drop (length text - place) text) e (K.name text _ (take (length text - place) text) (drop (length text - place) text) (own_and_named cause).1 e)

    module _ (marks : List ℕ) (rules : ℕ → Rule A) where
      entries_obey : (n : ℕ) (earlier : List (Entry ℕ A (Written A))) → AllObey K (entries_after attr marks rules n earlier)
      entries_obey zero earlier = obeying_nothing earlier
      entries_obey (suc n) earlier = record {
        at = λ text. (obeying_either (begins (the 33))
            (◌so◌ (entry_obeys (may_have marks earlier) rules) (λ e. ◌then◌ obeying_space (entries_obey n (earlier ++ e ∷ [])))) (obeying_nothing earlier)).at text;
      }

      unless_obeys : (text : Text) (fs : List (Failure Text ℕ)) (o : Outcome (List (Entry ℕ A (Written A)))) → Obeys K text o → Obeys K text (unless_wrong text fs o)
      unless_obeys text [] o k = k
      unless_obeys text (f ∷ fs) o k = stop_obeys text f.cause f.at

      referred_obeys : (text : Text) (o : Outcome (List (Entry ℕ A (Written A)))) → Obeys K text o → Obeys K text (referred rules text o)
      referred_obeys text (Read es taken rest) k = unless_obeys text (wrong_references rules es) _ k
      referred_obeys text (Missing cause) k = k
      referred_obeys text (Bad cause upto) k = k

      -- the parser of the section
      pub section_obeys : AllObey K (section_at attr marks rules)
      section_obeys = record {
        at = λ text. referred_obeys text (entries_at attr marks rules text)
            (obeys_followed text _ _ ((obeying_spaced (codes "outlined_attributes:")).at text) (λ _ t. (entries_obey (length t) []).at t));
      }
