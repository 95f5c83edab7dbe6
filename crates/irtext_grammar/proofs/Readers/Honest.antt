-- Parsers whose outcomes are of their texts: positions, marks, locations, and what a section's entries say.
use Rattle.std.proofs.Common.{ℕ, Bool, zero, suc, Some, None, [], codes, refl}
use Rattle.irtext_base.specs.Text.{Text}
use Rattle.irtext_base.specs.Answers.{Missing}
use Rattle.irtext_base.specs.Stream.{first_of}
use Rattle.irtext_base.specs.Faults.{Unexpected, Demand, ASource, ALocation}
use Rattle.irtext_base.specs.Locations.{AttrView, fused, named, call_site, unknown, no_location, location}
use Rattle.irtext_base.specs.Paths.{Written}
use Rattle.irtext_base.proofs.Sincere.{of_read, of_missing}
use Rattle.irtext_tokens.specs.Infix.{Reader, nothing, either, ◌▷◌, ◌▶◌, ◌⇒◌}
use Rattle.irtext_tokens.specs.Tokens.{word}
use Rattle.irtext_tokens.proofs.Honest.{Honest, ◌then◌, ◌so◌, seen, honest_either, honest_word, honest_space, honest_spaced, honest_integer, honest_quoted}
use Rattle.irtext_grammar.specs.Readers.Positions.{space_at, spaced_at, labelled_at, position_at}
use Rattle.irtext_grammar.specs.Readers.Locations.{WrittenRow, bytes_at, source_at, name_at, place_at, metadata_at, after_location, row_at, more_at, fused_at, named_at, call_site_at, kind_at, location_within, more_within}

-- nothing of the text
pub honest_nothing : {X : Type 0} (x : X) → Honest (nothing x)
honest_nothing x = record { of = λ text. of_read text x [] text refl }

-- nothing at all, and this was required
honest_demand : {X : Type 0} (demand : Demand)
    → Honest {X = X} (λ text. Missing (Unexpected (first_of text) demand))
honest_demand demand = record { of = λ text. of_missing text _ refl }

-- ---- marks and positions

honest_labelled : (w : Text) → Honest (labelled_at w)
honest_labelled w = ◌then◌ (honest_word w) (◌then◌ (honest_spaced (codes ":")) honest_integer)

pub honest_position : Honest position_at
honest_position = ◌so◌ (honest_labelled (codes "line")) (λ line.
    ◌then◌ (honest_spaced (codes ",")) (seen _ (honest_labelled (codes "column"))))

-- ---- the parts of locations
pub honest_bytes : Honest bytes_at
honest_bytes = seen _ honest_quoted

pub honest_source : Honest source_at
honest_source = honest_either _ (seen _ honest_bytes)
    (honest_either _ (seen _ (honest_word (codes "<in-memory>"))) (honest_demand ASource))

-- what follows the word `name`, up to the location that it names
pub honest_title : Honest (spaced_at (codes ":") ▷ bytes_at ▶ λ name.
    spaced_at (codes ",") ▷ word (codes "loc") ▷ spaced_at (codes ":") ▷ word (codes "(") ⇒ λ _. name)
honest_title = ◌then◌ (honest_spaced (codes ":")) (◌so◌ honest_bytes (λ name.
    ◌then◌ (honest_spaced (codes ",")) (◌then◌ (honest_word (codes "loc"))
    (◌then◌ (honest_spaced (codes ":")) (seen _ (honest_word (codes "(")))))))

pub honest_name : Honest name_at
honest_name = ◌then◌ (honest_word (codes "name")) honest_title

pub honest_place : {A : Type 0} → Honest (place_at {A = A})
honest_place = ◌so◌ honest_source (λ s. ◌then◌ (honest_spaced (codes ":")) (seen _ honest_position))

-- ---- locations
-- a property of parsers that stays where parsers are put together, and that each has whose outcomes are of their texts
pub record Keeps (P : (X : Type 0) → Reader X → Type 0) : Type 1 where
  pub honest : {X : Type 0} {f : Reader X} → Honest f → P X f
  pub follows : {X Y : Type 0} {f : Reader X} {k : X → Reader Y} → P X f → ((x : X) → P Y (k x)) → P Y (f ▶ k)
  pub sees : {X Y : Type 0} {f : Reader X} (see : X → Y) → P X f → P Y (f ⇒ see)
  pub one_of : {X : Type 0} {f g : Reader X} (test : Text → Bool) → P X f → P X g → P X (either test f g)
  pub row : {A : Type 0} (inner : Reader (Written A)) (more : Reader (WrittenRow A)) → P (Written A) inner
      → ((l : Written A) → P (WrittenRow A) (after_location inner more l))
      → P (WrittenRow A) (row_at inner more)

module _ {P : (X : Type 0) → Reader X → Type 0} (k : Keeps P) where
  following-word : {Y : Type 0} {g : Reader Y} (w : Text) → P _ g → P _ (word w ▷ g)
  following-word w h = k.follows (k.honest (honest_word w)) (λ _. h)

  following-spaced : {Y : Type 0} {g : Reader Y} (w : Text) → P _ g → P _ (spaced_at w ▷ g)
  following-spaced w h = k.follows (k.honest (honest_spaced w)) (λ _. h)

  following-space : {Y : Type 0} {g : Reader Y} → P _ g → P _ (space_at ▷ g)
  following-space h = k.follows (k.honest honest_space) (λ _. h)

  at-word : {Y : Type 0} (w : Text) (y : Y) → P _ (word w ⇒ λ _. y)
  at-word w y = k.sees (λ _. y) (k.honest (honest_word w))

  module _ {A : Type 0} {attr : Reader (AttrView A)} (h : P _ attr) where
    pub keeps_metadata : P _ (metadata_at attr)
    keeps_metadata = k.one_of _ (following-word (codes "<") (following-space (k.follows h (λ a.
        following-space (at-word (codes ">") (Some a)))))) (k.honest (honest_nothing None))

    -- where the locations inside have it
    module _ {inner : Reader (Written A)} {more : Reader (WrittenRow A)} (i : P _ inner) (m : P _ more) where
      keeps_after : (l : Written A) → P _ (after_location inner more l)
      keeps_after l = following-space (k.sees (location l) m)

      keeps_more : P _ (more_at inner more)
      keeps_more = k.one_of _ (following-word (codes ",") (following-space (k.follows i keeps_after)))
          (k.honest (honest_nothing no_location))

      keeps_fused : P _ (fused_at inner more attr)
      keeps_fused = following-word (codes "fused") (following-space (k.follows keeps_metadata (λ a.
          following-word (codes "[") (following-space (k.follows (k.row inner more i keeps_after) (λ ls.
          at-word (codes "]") (fused a ls)))))))

      keeps_named : P _ (named_at inner more)
      keeps_named = k.follows (k.honest honest_name) (λ name.
          k.follows i (λ l. at-word (codes ")") (named name l)))

      keeps_call_site : P _ (call_site_at inner more)
      keeps_call_site = following-word (codes "callsite") (following-spaced (codes "(") (k.follows i (λ callee.
          following-spaced (codes "at") (k.follows i (λ caller.
          k.sees (λ _. call_site callee caller) (k.honest (honest_spaced (codes ")"))))))))

      keeps_kind : P _ (kind_at inner more attr)
      keeps_kind = k.one_of _ (k.honest honest_place) (k.one_of _ keeps_fused (k.one_of _ keeps_named
          (k.one_of _ keeps_call_site (k.one_of _ (at-word (codes "?") unknown)
          (k.honest (honest_demand ALocation))))))

    mutual
      -- the parser of locations has it, where that of attributes has it
      pub keeps_within : (n : ℕ) → P _ (location_within attr n)
      keeps_within zero = k.honest (honest_demand ALocation)
      keeps_within (suc n) = keeps_kind (keeps_within n) (keeps_more_within n)

      pub keeps_more_within : (n : ℕ) → P _ (more_within attr n)
      keeps_more_within zero = k.honest (honest_nothing no_location)
      keeps_more_within (suc n) = keeps_more (keeps_within n) (keeps_more_within n)
