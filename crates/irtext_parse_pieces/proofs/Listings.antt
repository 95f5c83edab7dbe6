-- How far the parser of a list has come, whose items represent those of the text.
use Rattle.std.proofs.Common.{◌≡◌, ℕ, suc, Bool, true, false, cond, Result, Ok, Err, List, [], ◌∷◌, ◌++◌, length, refl, sym, ◌∙◌, subst, ◌⊎◌, inl, inr, true≢false, arith, ◌<◌}
use Rattle.std.specs.Char.{is_whitespace}
use Rattle.std.specs.Prelude.{IfErr}
use Rattle.irtext_base.specs.Text.{Text, begins, front, after}
use Rattle.irtext_base.specs.Reading.{the}
use Rattle.irtext_base.specs.Stream.{advanced}
use Rattle.irtext_base.specs.Answers.{Outcome, Read, Missing, Bad, Takes, RunsOut, RunsOutHere, Refuses, mapped, followed, unless_failed}
use Rattle.irtext_base.specs.declared.parsable.fault.ParseFault.{ParseFault}
use Rattle.irtext_base.proofs.Compose.{refuses_first_demanded}
use Rattle.irtext_tokens.specs.ListOutcomes.{item_after, items_after, or_empty, separated_at}
use Rattle.irtext_tokens.specs.MustRead.{MayRead, MustRead}
use Rattle.irtext_tokens.specs.Reads.{TakesFront}
use Rattle.irtext_tokens.specs.Tokens.{space_at}
use Rattle.irtext_tokens.proofs.ListOutcomes.{Found, found_first, found_all, goes_on, falls_after, after_separator, after_spaces, list_begun, list_empty, separated_never_missing}
use Rattle.irtext_tokens.proofs.Steps.{Lens, Passed, first, more, took, spaced, refuses, ran_out, last_spaced, begins_with, begins_refused, begun_by, fine_there, never_missing}
use Rattle.irtext_grammar.specs.Grammar.Tree.{Name}
use Rattle.irtext_grammar.specs.declared.parsed.ReadName.{ReadName}
use Rattle.irtext_parse_pieces.specs.Arguments.{IsArgument, MustArguments, ArgumentsAfter}
use Rattle.irtext_parse_pieces.specs.Lists.{IsAfterComma, Appends, KeptNext, KeepsNext}
use Rattle.irtext_parse_pieces.specs.Named.{whole, MayMean, MustMean, MayName, MustNames, NamesAfter}
use Rattle.irtext_grammar.specs.Parsed.{Represents, Each}
use Rattle.irtext_parse_pieces.proofs.Meanings.{passed_whole, takes_whole, may_whole, must_refuse, insisted_mean}

-- one more of each, after the others
pub each_more : {X Y : Type 0} (Means : Y → X → Type 0) (ys : List Y) (xs : List X) (y : Y) (x : X) → Each Means ys xs → Means y x → Each Means (ys ++ (y ∷ [])) (xs ++ (x ∷ []))
each_more Means [] [] y x h k = (k, tt)
each_more Means [] (z ∷ zs) y x h k = absurd h
each_more Means (w ∷ ws) [] y x h k = absurd h
each_more Means (w ∷ ws) (z ∷ zs) y x h k = (h.0, each_more Means ws zs y x h.1 k)

-- what each represents, stated in another way
pub each_on : {X Y : Type 0} (Means Other : Y → X → Type 0) → ((y : Y) (x : X) → Means y x → Other y x) → (ys : List Y) (xs : List X) → Each Means ys xs → Each Other ys xs
each_on Means Other on [] [] h = tt
each_on Means Other on [] (x ∷ xs) h = absurd h
each_on Means Other on (y ∷ ys) [] h = absurd h
each_on Means Other on (y ∷ ys) (x ∷ xs) h = (on y x h.0, each_on Means Other on ys xs h.1)

-- what follows the first item
abbrev pub after_first : {X : Type 0} → (Text → Outcome X) → List X → Text → Outcome (List X)
after_first item found t = items_after 44 item (length t) found t

module _ {S X : Type 0} (l : Lens S) (item : Text → Outcome X) where
  bad_first : {A : Type 0} (b : Bool) (o : Outcome (List X)) (text : Text) (old new : S) (fault : ParseFault A) → fault.committed ≡ true
      → RunsOut l.view l.at old fault new ⊎ Refuses l.view l.at (unless_failed b o) old fault new → RunsOut l.view l.at old fault new ⊎ Refuses l.view l.at (unless_failed b (or_empty (followed o (after_first item)) text)) old fault new
  bad_first b o text old new fault c (inl h) = inl h
  bad_first true o text old new fault c (inr h) = inr h
  bad_first false (Read x t r) text old new fault c (inr h) = absurd h
  bad_first false (Missing cause) text old new fault c (inr h) = absurd (true≢false (sym c ∙ h.committed))
  bad_first false (Bad cause upto) text old new fault c (inr h) = inr h

module _ {S X Y : Type 0} (l : Lens S) (item : Text → Outcome X) where
  module _ {A : Type 0} {see : Y → X} {old mid new : S} {y : Y} where
    -- a required item was parsed, with the white space after it
    pub item_read : (found : List X) → MustRead {A = A} l.view l.at see item old (Ok y) mid → Takes l.view l.at (front is_whitespace (l.view mid).rest) (after is_whitespace (l.view mid).rest) mid new
        → MustRead {A = A} {Y = Y} l.view l.at (λ _. found ++ (see y ∷ [])) (item_after 44 item found) old (Ok y) new
    item_read found h k = last_spaced l {A = A} (λ _. found ++ (see y ∷ [])) (λ _. found ++ (see y ∷ [])) y refl (first l (λ x t. mapped (λ _. found ++ (x ∷ [])) (space_at t)) h) k

    -- the first item was parsed, with the white space after it
    pub first_read : MayRead {A = A} l.view l.at see item old (Ok y) mid → Takes l.view l.at (front is_whitespace (l.view mid).rest) (after is_whitespace (l.view mid).rest) mid new
        → MayRead {A = A} {Y = Y} l.view l.at (λ _. see y ∷ []) (item_after 44 item []) old (Ok y) new
    first_read h k =
        let next : X → Text → Outcome (List X) = λ x t. mapped (λ _. x ∷ []) (space_at t) in
        begun_by l next h (last_spaced l {A = A} (λ _. see y ∷ []) (λ _. see y ∷ []) y refl (begins_with l next h) k)

  -- a separator, an item and white space consume at least one character
  pub item_falls : {A : Type 0} {see : Y → X} {now mid later next new : S} {y : Y} → begins (the 44) (l.view now).rest ≡ true → mid ≡ l.at now (advanced (l.view now)) → Takes l.view l.at (front is_whitespace (l.view mid).rest) (after is_whitespace (l.view mid).rest) mid later
      → MustRead {A = A} l.view l.at see item later (Ok y) next → Takes l.view l.at (front is_whitespace (l.view next).rest) (after is_whitespace (l.view next).rest) next new → length (l.view new).rest < length (l.view now).rest
  item_falls b t k h following = falls_after l 44 b t k (item_read [] h following)

  -- the items found so far after the first one, and what each represents
  pub record Listing (Means : Y → X → Type 0) (begun : List X) (old now : S) (found : List Y) : Type 0 where
    pub items : List X
    pub each : Each Means found items
    pub so_far : Found 44 item l begun old now items

  module _ {Means : Y → X → Type 0} where
    -- no more than the first one
    pub listing_first : (x : X) (y : Y) (old : S) → (l.view old).failed ≡ false → Means y x → Listing Means (x ∷ []) old old (y ∷ [])
    listing_first x y old fine h = record { items = x ∷ []; each = (h, tt); so_far = found_first 44 item l (x ∷ []) old fine }

    -- what was found is that
    pub listing_starts : {found : List Y} (x : X) (y : Y) (old : S) → found ≡ y ∷ [] → (l.view old).failed ≡ false → Means y x → Listing Means (x ∷ []) old old found
    listing_starts x y old e fine h = subst (λ z. Listing Means (x ∷ []) old old z) (sym e) (listing_first x y old fine h)

    module _ {begun : List X} {old now : S} {found : List Y} where
      -- where no separator follows, these are all
      pub listing_all : {A W : Type 0} (MeansAll : W → List X → Type 0) (w : W) → begins (the 44) (l.view now).rest ≡ false → (p : Listing Means begun old now found) → MeansAll w p.items
          → MustMean {A = A} l.view l.at MeansAll (λ t. items_after 44 item (length t) begun t) old (Ok w) now
      listing_all MeansAll w stop p h = record { meant = λ _. p.items; means = h; read = found_all 44 item l (λ _. p.items) w refl stop p.so_far }

      -- an item is to be parsed after a separator and white space
      pub listing_next : {mid later : S} → begins (the 44) (l.view now).rest ≡ true → mid ≡ l.at now (advanced (l.view now)) → Takes l.view l.at (front is_whitespace (l.view mid).rest) (after is_whitespace (l.view mid).rest) mid later → (p : Listing Means begun old now found)
          → (n : ℕ) × (p.so_far.room ≡ suc n) × Passed l (λ t. items_after 44 item (length t) begun t) (after_spaces 44 item n p.items tt) old later
      listing_next b t k p =
          let w = goes_on 44 item l b p.so_far in
          (w.0, w.1, spaced l (after_spaces 44 item w.0 p.items) (took l 44 (after_separator 44 item w.0 p.items) w.2 b t) k)

      -- the whole text is the same there
      pub listing_whole : {mid later : S} → begins (the 44) (l.view now).rest ≡ true → mid ≡ l.at now (advanced (l.view now)) → Takes l.view l.at (front is_whitespace (l.view mid).rest) (after is_whitespace (l.view mid).rest) mid later → Listing Means begun old now found → whole (l.view later) ≡ whole (l.view old)
      listing_whole b t k p = passed_whole l (listing_next b t k p).2

      module _ {A : Type 0} {mid later : S} (b : begins (the 44) (l.view now).rest ≡ true) (t : mid ≡ l.at now (advanced (l.view now))) (k : Takes l.view l.at (front is_whitespace (l.view mid).rest) (after is_whitespace (l.view mid).rest) mid later) (p : Listing Means begun old now found) where
        -- the item there is an error
        pub listing_refused : {W : Type 0} {see : Y → X} (sees : W → List X) {fault : ParseFault A} {new : S} → MustRead l.view l.at see item later (Err fault) new → MustRead l.view l.at sees (λ t. items_after 44 item (length t) begun t) old (Err fault) new
        listing_refused {see = see} sees {fault = fault} {new = new} h =
            let w = listing_next b t k p in
            let q : MustRead {Y = Y} l.view l.at (λ _. p.items) (item_after 44 item p.items) later (Err fault) new =
            record { answers = refuses_first_demanded l.view l.at l.view_at l.at_at see (λ (z : Y). p.items) (l.view later).failed (item (l.view later).rest) (λ x t. mapped (λ _. p.items ++ (x ∷ [])) (space_at t)) later new fault h.answers } in
            refuses l (λ more v. items_after 44 item w.0 more v) w.2 q

        -- the item there was parsed, with the white space after it
        pub listing_more : {Other : Y → X → Type 0} {next new : S} {y : Y} → ((y : Y) (x : X) → Means y x → Other y x) → (h : MustMean {A = A} l.view l.at Other item later (Ok y) next) → Takes l.view l.at (front is_whitespace (l.view next).rest) (after is_whitespace (l.view next).rest) next new
            → Listing Other begun old new (found ++ (y ∷ []))
        listing_more {Other = Other} {next = next} {new = new} {y = y} on h following =
            let w = listing_next b t k p in
            let i = item_read {see = h.meant} p.items h.read following in
            record {
              items = p.items ++ (h.meant y ∷ []);
              each = each_more Other found p.items y (h.meant y) (each_on Means Other on found p.items p.each) h.means;
              so_far = record {
                room = w.0;
                enough = omega (arith, falls_after l 44 b t k i, p.so_far.enough, w.1);
                passed = more l (λ more v. items_after 44 item w.0 more v) w.2 i;
              };
            }

      -- out of memory there
      pub listing_ran_out : {A W : Type 0} (sees : W → List X) {fault : ParseFault A} {new : S} → Listing Means begun old now found → RunsOutHere l.view l.at now fault new → MustRead l.view l.at sees (λ t. items_after 44 item (length t) begun t) old (Err fault) new
      listing_ran_out sees p h = ran_out l {sees = sees} p.so_far.passed h

  module _ {A : Type 0} {see : Y → X} {old new : S} where
    first_refused : {fault : ParseFault A} → MayRead l.view l.at see item old (Err fault) new → MayRead {Y = Y} l.view l.at (λ _. []) (item_after 44 item []) old (Err fault) new
    first_refused h = begins_refused l (λ _. []) (λ x t. mapped (λ _. x ∷ []) (space_at t)) h

  module _ {A W : Type 0} {see : Y → X} {old new : S} where
    -- the first item is bad
    pub list_bad : (sees : W → List X) {fault : ParseFault A} → fault.committed ≡ true → MayRead l.view l.at see item old (Err fault) new → MustRead l.view l.at sees (separated_at 44 item) old (Err fault) new
    list_bad sees {fault = fault} c h =
        never_missing l (separated_at 44 item) (separated_never_missing 44 item) (record { answers = bad_first l item (l.view old).failed (item_after 44 item [] (l.view old).rest) (l.view old).rest old new fault c (first_refused h).answers })

    -- there is no first item
    pub list_none : (sees : W → List X) (w : W) → sees w ≡ [] → {fault : ParseFault A} → fault.committed ≡ false → MayRead l.view l.at see item old (Err fault) new → MustRead {A = A} l.view l.at sees (separated_at 44 item) old (Ok w) new
    list_none sees w e c h =
        never_missing l (separated_at 44 item) (separated_never_missing 44 item) (list_empty l (after_first item) w e c (first_refused h))

    -- there is a first item
    pub list_some : {MeansAll : W → List X → Type 0} {y : Y} {mid last : S} {r : Result W (ParseFault A)} → MayRead {A = A} l.view l.at see item old (Ok y) mid → Takes l.view l.at (front is_whitespace (l.view mid).rest) (after is_whitespace (l.view mid).rest) mid new
        → ((l.view new).failed ≡ false → MustMean l.view l.at MeansAll (λ t. items_after 44 item (length t) (see y ∷ []) t) new r last) → MustMean l.view l.at MeansAll (separated_at 44 item) old r last
    list_some h k rest =
        let i = first_read h k in
        let m = rest (fine_there l (begins_with l (after_first item) i)) in
        record { meant = m.meant; means = m.means; read = never_missing l (separated_at 44 item) (separated_never_missing 44 item) (list_begun l (after_first item) i (λ _. m.read)) }

  -- without a separator after it the first item is all
  pub only_first : {A : Type 0} {Means : Y → X → Type 0} (x : X) (y : Y) {old : S} {ys : List Y} → ys ≡ y ∷ [] → begins (the 44) (l.view old).rest ≡ false → (l.view old).failed ≡ false → Means y x
      → MustMean {A = A} l.view l.at (Each Means) (λ t. items_after 44 item (length t) (x ∷ []) t) old (Ok ys) old
  only_first {Means = Means} x y {old = old} {ys = ys} e stop fine h = let p = listing_starts x y old e fine h in listing_all (Each Means) ys stop p p.each

  -- an uncommitted error of the first item is no error of the list, which then has no items
  pub list_unread : {A W : Type 0} {Means : Y → X → Type 0} {MeansAll : W → List X → Type 0} {old new : S} {fault : ParseFault A} (w : W) (r : Result W (ParseFault A)) → MeansAll w [] → MayMean l.view l.at Means item old (Err fault) new → cond fault.committed (r ≡ Err fault) (r ≡ Ok w)
      → MustMean l.view l.at MeansAll (separated_at 44 item) old r new
  list_unread {A = A} {MeansAll = MeansAll} {old = old} {new = new} {fault = fault} w r none m h = go fault.committed refl h
    where
      go : (b : Bool) → fault.committed ≡ b → cond b (r ≡ Err fault) (r ≡ Ok w) → MustMean l.view l.at MeansAll (separated_at 44 item) old r new
      go true c e = rw e (must_refuse l (list_bad (λ _. []) c m.read))
      go false c e = rw e (record { meant = λ _. []; means = none; read = list_none (λ _. []) w refl c m.read })

-- a turn of a loop over items consumes at least one character
pub turn_falls : {S X Y A : Type 0} (l : Lens S) (item : Text → Outcome X) {now later next new : S} {found more : List Y} {y : Y} {Means : Y → X → Type 0} → IsAfterComma l.view l.at now later → MustMean {A = A} l.view l.at Means item later (Ok y) next → Appends {A = A} l.view l.at found y next (Ok more) new
    → length (l.view new).rest < length (l.view now).rest
turn_falls {A = A} l item {now = now} comma m a = subst (λ s. length (l.view s).rest < length (l.view now).rest) (sym a.appended.1) (item_falls l item {A = A} comma.comes comma.taken comma.spaced m.read a.spaced)

-- the same, of the next item if it was one
pub kept_falls : {S X Y A : Type 0} (l : Lens S) (item : Text → Outcome X) {now later parsed new : S} {found more : List Y} {Means : Y → X → Type 0} → IsAfterComma l.view l.at now later → (answer : Result Y (ParseFault A)) → MayMean {A = A} l.view l.at Means item later answer parsed
    → KeepsNext {A = A} l.view l.at found answer parsed (Ok more) new → length (l.view new).rest < length (l.view now).rest
kept_falls {Y = Y} {A = A} l item {now = now} {later = later} {new = new} {found = found} {more = more} {Means = Means} comma answer m k = go k.item (insisted_mean l answer k.item m k.demands) k.kept
  where
    go : (i : Result Y (ParseFault A)) → MustMean l.view l.at Means item later i k.mid → KeptNext {A = A} l.view l.at found i k.mid (Ok more) new → length (l.view new).rest < length (l.view now).rest
    go (Ok y) h a = turn_falls l item comma h a
    go (Err fault) h a = let e = a.0 in absurd (cc)

-- one turn of a loop over items: `,` and white space, an item and the white space after it
module _ {S X Y A : Type 0} (l : Lens S) (item : Text → Outcome X) {begun : List X} {old now later : S} {found : List Y} (comma : IsAfterComma l.view l.at now later) where
  -- the item is an error
  pub turn_refused : {M N : Y → X → Type 0} {W : Type 0} {MeansAll : W → List X → Type 0} {fault : ParseFault A} {new : S} → Listing l item M begun old now found → MustMean l.view l.at N item later (Err fault) new
      → MustMean l.view l.at MeansAll (λ t. items_after 44 item (length t) begun t) old (Err fault) new
  turn_refused p m = must_refuse l (listing_refused l item comma.comes comma.taken comma.spaced p (λ _. []) m.read)

  module _ {next : S} {y : Y} (Means Other : Text → Y → X → Type 0) (on : (y : Y) (x : X) → Means (whole (l.view old)) y x → Other (whole (l.view old)) y x)
      (m : MustMean {A = A} l.view l.at (Other (whole (l.view later))) item later (Ok y) next) (p : Listing l item (Means (whole (l.view old))) begun old now found) where
    -- the item is one more
    pub turn_more : {new : S} → TakesFront l.view l.at is_whitespace next new → Listing l item (Other (whole (l.view old))) begun old new (found ++ (y ∷ []))
    turn_more following =
        let e = listing_whole l item comma.comes comma.taken comma.spaced p in
        listing_more l item comma.comes comma.taken comma.spaced p on (subst (λ t. MustMean {A = A} l.view l.at (Other t) item later (Ok y) next) e m) following

    -- it was appended to those that were found
    pub turn_keeps : {more : List Y} {new : S} → Appends {A = A} l.view l.at found y next (Ok more) new → Listing l item (Other (whole (l.view old))) begun old new more
    turn_keeps {new = new} a =
        subst (λ z. Listing l item (Other (whole (l.view old))) begun old new z) (sym a.appended.0)
        (subst (λ s. Listing l item (Other (whole (l.view old))) begun old s (found ++ (y ∷ []))) (sym a.appended.1) (turn_more a.spaced))

    -- there was no memory to append it
    pub turn_ran_out : {W : Type 0} {MeansAll : W → List X → Type 0} {fault : ParseFault A} {new : S} → Appends l.view l.at found y next (Err fault) new → MustMean l.view l.at MeansAll (λ t. items_after 44 item (length t) begun t) old (Err fault) new
    turn_ran_out a = must_refuse l (listing_ran_out l item (λ _. []) (turn_more a.spaced) a.appended)

  module _ {parsed : S} (Means Other : Text → Y → X → Type 0) (on : (y : Y) (x : X) → Means (whole (l.view old)) y x → Other (whole (l.view old)) y x) (answer : Result Y (ParseFault A))
      (m : MayMean {A = A} l.view l.at (Other (whole (l.view later))) item later answer parsed) where
    -- the next item is one more
    pub turn_kept : {more : List Y} {new : S} → Listing l item (Means (whole (l.view old))) begun old now found → KeepsNext {A = A} l.view l.at found answer parsed (Ok more) new → Listing l item (Other (whole (l.view old))) begun old new more
    turn_kept {more = more} {new = new} p k = go k.item (insisted_mean l answer k.item m k.demands) k.kept
      where
        go : (i : Result Y (ParseFault A)) → MustMean l.view l.at (Other (whole (l.view later))) item later i k.mid → KeptNext {A = A} l.view l.at found i k.mid (Ok more) new → Listing l item (Other (whole (l.view old))) begun old new more
        go (Ok y) h a = turn_keeps Means Other on h p a
        go (Err fault) h a = let e = a.0 in absurd (cc)

    -- it is an error, or there was no memory to append it
    pub turn_unkept : {W : Type 0} {MeansAll : W → List X → Type 0} {fault : ParseFault A} {new : S} → Listing l item (Means (whole (l.view old))) begun old now found → KeepsNext {A = A} l.view l.at found answer parsed (Err fault) new
        → MustMean l.view l.at MeansAll (λ t. items_after 44 item (length t) begun t) old (Err fault) new
    turn_unkept {W = W} {MeansAll = MeansAll} {fault = fault} {new = new} p k = go k.item (insisted_mean l answer k.item m k.demands) k.kept
      where
        go : (i : Result Y (ParseFault A)) → MustMean l.view l.at (Other (whole (l.view later))) item later i k.mid → KeptNext {A = A} l.view l.at found i k.mid (Err fault) new → MustMean l.view l.at MeansAll (λ t. items_after 44 item (length t) begun t) old (Err fault) new
        go (Ok y) h a = turn_ran_out Means Other on h p a
        go (Err other) h a =
            subst (λ s. MustMean l.view l.at MeansAll (λ t. items_after 44 item (length t) begun t) old (Err fault) s) (sym a.1)
            (subst (λ r. IfErr r (λ f. MustMean l.view l.at MeansAll (λ t. items_after 44 item (length t) begun t) old (Err f) k.mid)) (sym a.0) (turn_refused p h))

module _ {S X Y A : Type 0} (l : Lens S) (item : Text → Outcome X) {Means : Y → X → Type 0} {begun : List X} {old now new : S} {found : List Y} where
  -- no `,` comes next, so these are all
  pub turn_ends : {W : Type 0} (MeansAll : W → List X → Type 0) (w : W) → (begins (the 44) (l.view now).rest ≡ false) × (new ≡ now) → (p : Listing l item Means begun old now found) → MeansAll w p.items
      → MustMean {A = A} l.view l.at MeansAll (λ t. items_after 44 item (length t) begun t) old (Ok w) new
  turn_ends MeansAll w stop p h =
      subst (λ s. MustMean {A = A} l.view l.at MeansAll (λ t. items_after 44 item (length t) begun t) old (Ok w) s) (sym stop.1) (listing_all l item MeansAll w stop.0 p h)

-- there is a first name, and what follows it
pub list_names : {S A : Type 0} (l : Lens S) (item : Text → Outcome (Name ℕ)) (before names : List Text) {old mid new last : S} {first : ReadName} {r : Result (List ReadName) (ParseFault A)} → MayName {A = A} l.view l.at before item old (Ok first) mid → Takes l.view l.at (front is_whitespace (l.view mid).rest) (after is_whitespace (l.view mid).rest) mid new
    → NamesAfter l.view l.at before names item first new r last → MustNames l.view l.at names (separated_at 44 item) old r last
list_names {A = A} l item before names {old = old} {mid = mid} {new = new} {last = last} {first = n} {r = r} h k rest =
    let e : whole (l.view new) ≡ whole (l.view old) = takes_whole l mid new (front is_whitespace (l.view mid).rest) (after is_whitespace (l.view mid).rest) k ∙ may_whole l h.read in
    list_some l item h.read k (λ fine. subst (λ t. MustMean l.view l.at (Each (Represents names t)) (λ t. items_after 44 item (length t) (h.meant n ∷ []) t) new r last) e (rest (h.meant n) (subst (λ t. Represents before t n (h.meant n)) (sym e) h.means) fine))

-- there is a first argument, and what follows it
pub list_arguments : {S T A : Type 0} (l : Lens S) (item : Text → Outcome (Name ℕ × T)) (before names : List Text) {old mid new last : S} {first : ReadName × T} {r : Result (List (ReadName × T)) (ParseFault A)} → MayMean {A = A} l.view l.at (IsArgument before (whole (l.view old))) item old (Ok first) mid → Takes l.view l.at (front is_whitespace (l.view mid).rest) (after is_whitespace (l.view mid).rest) mid new
    → ArgumentsAfter l.view l.at before names item first new r last → MustArguments l.view l.at names (separated_at 44 item) old r last
list_arguments {A = A} l item before names {old = old} {mid = mid} {new = new} {last = last} {first = n} {r = r} h k rest =
    let e : whole (l.view new) ≡ whole (l.view old) = takes_whole l mid new (front is_whitespace (l.view mid).rest) (after is_whitespace (l.view mid).rest) k ∙ may_whole l h.read in
    list_some l item h.read k (λ fine. subst (λ t. MustMean l.view l.at (Each (IsArgument names t)) (λ t. items_after 44 item (length t) (h.meant n ∷ []) t) new r last) e (rest (h.meant n) (subst (λ t. IsArgument before t n (h.meant n)) (sym e) h.means) fine))
