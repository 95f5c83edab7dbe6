-- Lists keep the rules that their items keep.
use Rattle.std.proofs.Common.{◌≡◌, ℕ, Bool, true, false, Result, Ok, Err, List, [], ◌∷◌, ◌++◌, Vec, refl, sym, ◌∙◌, ap, subst, append_assoc, append-nil, inl, inr}
use Rattle.std.specs.Fn.{Mut}
use Rattle.std.specs.Borrow.{MutBor}
use Rattle.std.specs.Char.{is_whitespace}
use Rattle.irtext_base.specs.Text.{Text, begins}
use Rattle.irtext_base.specs.Stream.{StreamView, advanced, advanced_by, after_taken, after_failure}
use Rattle.irtext_base.specs.Faults.{Fault}
use Rattle.irtext_base.specs.Answers.{Outcome, Read, Missing, Bad, Answers, SameStream, Takes, RunsOutHere, Commits, Passes}
use Rattle.irtext_base.specs.declared.parsable.fault.ParseFault.{ParseFault}
use Rattle.irtext_base.proofs.Along.{front_after}
use Rattle.irtext_tokens.specs.Lists.{Calls, AlwaysKeepsRules, KeepsRules, MovesOn, Insisted, Skips, Opens, Items, missing, bad, empty, no_room, more, SpacedItems, Tail, none, insisted, no_more_room, next, Separated, no_item, bad_item, no_first_room, an_item, Delimited, no_left, bad_inside, no_right, closed, Spaced, read, refused, refused_after, listed, prepended, skipped, spaces}
use Rattle.irtext_tokens.proofs.ListSteps.{rules_at}

-- what one step does to the parts of a stream
advanced_parts : (passed rest : Text) (b : Bool) → (taken : Text) × (taken ++ (advanced_by passed rest b).rest ≡ rest) × ((advanced_by passed rest b).passed ≡ passed ++ taken) × ((advanced_by passed rest b).failed ≡ b)
advanced_parts passed [] b = ([], refl, sym (append-nil passed), refl)
advanced_parts passed (c ∷ rest) b = (c ∷ [], refl, refl, refl)

module _ {S : Type 0} (view : S → StreamView) (at : S → StreamView → S) where
  hands_none : (s : S) → MovesOn view at s s
  hands_none s = record { taken = []; same = refl; passed = sym (append-nil (view s).passed); fails = refl }

  -- one item after another leaves the old text or a suffix of it
  pub hands_more : (s t u : S) → MovesOn view at s t → MovesOn view at t u → MovesOn view at s u
  hands_more s t u h k = record {
    taken = h.taken ++ k.taken;
    same = append_assoc h.taken k.taken (view u).rest ∙ (ap (λ z. h.taken ++ z) k.same ∙ h.same);
    passed = k.passed ∙ (ap (λ z. z ++ k.taken) h.passed ∙ append_assoc (view s).passed h.taken k.taken);
    fails = k.fails ∙ h.fails;
  }

  -- a value leaves the old text or a suffix of it, and an error is committed and leaves the stream failed
  abbrev pub Settles : {Y A : Type 0} → S → Result Y (ParseFault A) → S → Type 0
  Settles old (Ok y) new = MovesOn view at old new
  Settles old (Err fault) new = (fault.committed ≡ true) × ((view new).failed ≡ true)

  pub settles_keeps : {Y A : Type 0} (s : S) (r : Result Y (ParseFault A)) (u : S) → Settles s r u → KeepsRules view at s r u
  settles_keeps s (Ok y) u h = h
  settles_keeps s (Err fault) u h = (λ e. absurd (let q : true ≡ false = sym h.0 ∙ e in cc), λ e. h.1)

  hands_settle : {Y A : Type 0} (s b : S) (r : Result Y (ParseFault A)) (u : S) → MovesOn view at s b → Settles b r u → Settles s r u
  hands_settle s b (Ok y) u h k = hands_more s b u h k
  hands_settle s b (Err fault) u h k = k

  settles_prepended : {X A : Type 0} (xs : List X) (s : S) (r q : Result (List X) (ParseFault A)) (u : S) → q ≡ prepended xs r → Settles s r u → Settles s q u
  settles_prepended xs s (Ok ys) q u e h = rw e h
  settles_prepended xs s (Err fault) q u e h = rw e h

  -- what is promised of a result does not depend on the allocator of the items
  pub keeps_listed : {X A Z : Type 0} (s : S) (r : Result (Vec X Z) (ParseFault A)) (u : S) → KeepsRules view at s (listed r) u → KeepsRules view at s r u
  keeps_listed s (Ok found) u h = h
  keeps_listed s (Err fault) u h = h

  module _ (view_at : (s : S) (v : StreamView) → view (at s v) ≡ v) where
    hands_skips : (s t : S) → Skips view at s t → MovesOn view at s t
    hands_skips s t e =
        let v : view t ≡ skipped (view s) = ap view e ∙ view_at s (skipped (view s)) in
        record { taken = spaces (view s).rest; same = ap (λ w. spaces (view s).rest ++ w.rest) v ∙ front_after is_whitespace (view s).rest; passed = ap (λ w. w.passed) v; fails = ap (λ w. w.failed) v }

    hands_advanced : (s t : S) → t ≡ at s (advanced (view s)) → MovesOn view at s t
    hands_advanced s t e =
        let v : view t ≡ advanced (view s) = ap view e ∙ view_at s (advanced (view s)) in
        let p = advanced_parts (view s).passed (view s).rest (view s).failed in
        record { taken = p.0; same = ap (λ w. p.0 ++ w.rest) v ∙ p.1; passed = ap (λ w. w.passed) v ∙ p.2; fails = ap (λ w. w.failed) v ∙ p.3 }

    hands_taken : (taken rest : Text) (s t : S) → Takes view at taken rest s t → MovesOn view at s t
    hands_taken taken rest s t k =
        let v : view t ≡ after_taken (view s) taken rest = ap view k.is ∙ view_at s (after_taken (view s) taken rest) in
        record { taken = taken; same = ap (λ w. taken ++ w.rest) v ∙ k.same; passed = ap (λ w. w.passed) v; fails = ap (λ w. w.failed) v }

    hands_opens : (c : ℕ) (s t : S) → Opens view at c s t → MovesOn view at s t
    hands_opens c s t o = hands_more s o.mid t (hands_advanced s o.mid o.taken) (hands_skips o.mid t o.skips)

    same_stream_failed : (s u : S) → SameStream view at true s u → (view u).failed ≡ true
    same_stream_failed s u k = ap (λ z. (view z).failed) k.is ∙ (ap (λ w. w.failed) (view_at s k.seen) ∙ k.fails)

    module _ {A : Type 0} where
      -- an error of a required item is committed, and the stream has failed
      insisted_settles : (X : Type 0) (b : Bool) (fault last : ParseFault A) (s t u : S) → fault.committed ≡ b → KeepsRules view at {Y = X} s (Err fault) t → Insisted view at fault t last u → (last.committed ≡ true) × ((view u).failed ≡ true)
      insisted_settles X true fault last s t u e k i = (i.committed, ap (λ z. (view z).failed) (i.already e) ∙ k.1 e)
      insisted_settles X false fault last s t u e k i = (i.committed, ap (λ z. (view z).failed) (i.failing e) ∙ ap (λ w. w.failed) (view_at t (after_failure (view t))))

      runs_out_settles : (s t : S) (fault : ParseFault A) (u : S) → RunsOutHere view at t fault u → (fault.committed ≡ true) × ((view u).failed ≡ true)
      runs_out_settles s t fault u k = (k.committed, ap (λ z. (view z).failed) k.left ∙ ap (λ w. w.failed) (view_at t (after_failure (view t))))

      commits_settles : (cause : Fault) (upto : Text) (t : S) (fault : ParseFault A) (u : S) → Commits view at cause upto t fault u → (fault.committed ≡ true) × ((view u).failed ≡ true)
      commits_settles cause upto t fault u k = (k.committed, same_stream_failed t u k.left)

      -- a committed error keeps the rules, wherever the stream began
      pub commits_keeps : (Y : Type 0) (cause : Fault) (upto : Text) (s t : S) (fault : ParseFault A) (u : S) → Commits view at cause upto t fault u → KeepsRules view at {Y = Y} s (Err fault) u
      commits_keeps Y cause upto s t fault u k = settles_keeps {Y = Y} s (Err fault) u (commits_settles cause upto t fault u k)

      -- so does an error that is not committed
      pub passes_keeps : (Y : Type 0) (cause : Fault) (s : S) (fault : ParseFault A) (u : S) → Passes view at cause s fault u → KeepsRules view at {Y = Y} s (Err fault) u
      passes_keeps Y cause s fault u k = (λ e. k.left, λ e. absurd (let q : true ≡ false = sym e ∙ k.committed in cc))

      -- so does what a parser with this outcome returns
      pub answers_keep : {X Y : Type 0} (see : Y → X) (o : Outcome X) (s : S) (r : Result Y (ParseFault A)) (u : S) → Answers view at see o s r u → KeepsRules view at s r u
      answers_keep see (Read x taken rest) s (Ok y) u h = hands_taken taken rest s u h.1
      answers_keep see (Missing cause) s (Ok y) u h = absurd h
      answers_keep see (Bad cause upto) s (Ok y) u h = absurd h
      answers_keep {Y = Y} see o s (Err fault) u (inl h) = settles_keeps {Y = Y} s (Err fault) u (h.committed, same_stream_failed s u h.left)
      answers_keep see (Read x taken rest) s (Err fault) u (inr h) = absurd h
      answers_keep {Y = Y} see (Missing cause) s (Err fault) u (inr h) = passes_keeps Y cause s fault u h
      answers_keep {Y = Y} see (Bad cause upto) s (Err fault) u (inr h) = commits_keeps Y cause upto s s fault u h

      module _ {F X : Type 0} (calls : F → S → Result X (ParseFault A) → F → S → Type 0) (keeps : (f : F) (s : S) (r : Result X (ParseFault A)) (g : F) (t : S) → calls f s r g t → KeepsRules view at s r t) where
        items_settle : (f : F) (s : S) (r : Result (List X) (ParseFault A)) (u : S) → Items view at calls f s r u → Settles s r u
        items_settle _ _ _ _ (missing f s fault g t called free) = subst (λ z. MovesOn view at s z) (sym ((keeps f s (Err fault) g t called).0 free)) (hands_none s)
        items_settle _ _ _ _ (bad f s fault g t called shut) = (shut, (keeps f s (Err fault) g t called).1 shut)
        items_settle _ _ _ _ (empty f s x g t fault u called same commits) = commits_settles _ [] t fault u commits
        items_settle _ _ _ _ (no_room f s x g t fault u called runs_out) = runs_out_settles s t fault u runs_out
        items_settle _ _ _ _ (more f s x g t b r q u called less skips later same) =
            settles_prepended (x ∷ []) s r q u same (hands_settle s b r u (hands_more s t b (keeps f s (Ok x) g t called) (hands_skips t b skips)) (items_settle g b r u later))

        tail_settles : (sep : ℕ) (f : F) (s : S) (r : Result (List X) (ParseFault A)) (u : S) → Tail view at calls sep f s r u → Settles s r u
        tail_settles sep _ _ _ _ (none f s stops) = hands_none s
        tail_settles sep _ _ _ _ (insisted f s b fault last g t u opens called must) = insisted_settles X fault.committed fault last b t u refl (keeps f b (Err fault) g t called) must
        tail_settles sep _ _ _ _ (no_more_room f s b x g t fault u opens called runs_out) = runs_out_settles s t fault u runs_out
        tail_settles sep _ _ _ _ (next f s b x g t d r q u opens called skips later same) =
            let before = hands_more s b d (hands_opens sep s b opens) (hands_more b t d (keeps f b (Ok x) g t called) (hands_skips t d skips)) in
            settles_prepended (x ∷ []) s r q u same (hands_settle s d r u before (tail_settles sep g d r u later))

        separated_settles : (sep : ℕ) (f : F) (s : S) (r : Result (List X) (ParseFault A)) (u : S) → Separated view at calls sep f s r u → Settles s r u
        separated_settles sep _ _ _ _ (no_item f s fault g t called free) = subst (λ z. MovesOn view at s z) (sym ((keeps f s (Err fault) g t called).0 free)) (hands_none s)
        separated_settles sep _ _ _ _ (bad_item f s fault g t called shut) = (shut, (keeps f s (Err fault) g t called).1 shut)
        separated_settles sep _ _ _ _ (no_first_room f s x g t fault u called runs_out) = runs_out_settles s t fault u runs_out
        separated_settles sep _ _ _ _ (an_item f s x g t b q u called skips later) =
            hands_settle s b q u (hands_more s t b (keeps f s (Ok x) g t called) (hands_skips t b skips)) (settles_prepended (x ∷ []) b later.0 q u later.2 (tail_settles sep g b later.0 u later.1))

        spaced_items_settle : (f : F) (s : S) (r : Result (List X) (ParseFault A)) (u : S) → SpacedItems view at calls f s r u → Settles s r u
        spaced_items_settle f s r u k = hands_settle s k.mid r u (hands_skips s k.mid k.skips) (items_settle f k.mid r u k.items)

        delimited_keeps : (left right sep : ℕ) (f : F) (s : S) (r : Result (List X) (ParseFault A)) (u : S) → Delimited view at calls left right sep f s r u → KeepsRules view at s r u
        delimited_keeps left right sep _ _ _ _ (no_left f s fault u stops passes) = passes_keeps (List X) _ s fault u passes
        delimited_keeps left right sep _ _ _ _ (bad_inside f s b fault u opens inside) = settles_keeps {Y = List X} s (Err fault) u (separated_settles sep f b (Err fault) u inside)
        delimited_keeps left right sep _ _ _ _ (no_right f s b xs t fault u opens inside stops commits) = settles_keeps {Y = List X} s (Err fault) u (commits_settles _ [] t fault u commits)
        delimited_keeps left right sep _ _ _ _ (closed f s b xs t u opens inside ends last) =
            hands_more s b u (hands_opens left s b opens) (hands_more b t u (separated_settles sep f b (Ok xs) t inside) (hands_advanced t u last))

        spaced_keeps : (f : F) (s : S) (r : Result X (ParseFault A)) (u : S) → Spaced view at calls f s r u → KeepsRules view at s r u
        spaced_keeps f s _ _ (read b x g t u skips called following) = hands_more s b u (hands_skips s b skips) (hands_more b t u (keeps f b (Ok x) g t called) (hands_skips t u following))
        spaced_keeps f s _ _ (refused fault g u stops called) = keeps f s (Err fault) g u called
        spaced_keeps f s _ _ (refused_after b fault last g t u begins skips called must) = settles_keeps {Y = X} s (Err last) u (insisted_settles X fault.committed fault last b t u refl (keeps f b (Err fault) g t called) must)

      -- a list of an item that keeps the rules keeps them
      module _ {F R X : Type 0} (seen : R → Result X (ParseFault A)) (item : Mut F (MutBor S × Unit {0}) (R × (MutBor S × Unit {0}))) (rules : AlwaysKeepsRules view at seen item) where
        pub list_keeps : {Z : Type 0} (sep : ℕ) (f : F) (s : S) (r : Result (Vec X Z) (ParseFault A)) (u : S) → Separated view at (Calls seen item) sep f s (listed r) u → KeepsRules view at s r u
        list_keeps sep f s r u h = keeps_listed s r u (settles_keeps s (listed r) u (separated_settles (Calls seen item) (rules_at view at rules) sep f s (listed r) u h))

        pub delimited_list_keeps : {Z : Type 0} (left right sep : ℕ) (f : F) (s : S) (r : Result (Vec X Z) (ParseFault A)) (u : S) → Delimited view at (Calls seen item) left right sep f s (listed r) u → KeepsRules view at s r u
        delimited_list_keeps left right sep f s r u h = keeps_listed s r u (delimited_keeps (Calls seen item) (rules_at view at rules) left right sep f s (listed r) u h)

        pub items_keep : {Z : Type 0} (f : F) (s : S) (r : Result (Vec X Z) (ParseFault A)) (u : S) → Items view at (Calls seen item) f s (listed r) u → KeepsRules view at s r u
        items_keep f s r u h = keeps_listed s r u (settles_keeps s (listed r) u (items_settle (Calls seen item) (rules_at view at rules) f s (listed r) u h))

        pub zero_or_more_keeps : {Z : Type 0} (f : F) (s : S) (r : Result (Vec X Z) (ParseFault A)) (u : S) → SpacedItems view at (Calls seen item) f s (listed r) u → KeepsRules view at s r u
        zero_or_more_keeps f s r u h = keeps_listed s r u (settles_keeps s (listed r) u (spaced_items_settle (Calls seen item) (rules_at view at rules) f s (listed r) u h))

        pub spaced_item_keeps : (f : F) (s : S) (r : Result X (ParseFault A)) (u : S) → Spaced view at (Calls seen item) f s r u → KeepsRules view at s r u
        spaced_item_keeps f s r u h = spaced_keeps (Calls seen item) (rules_at view at rules) f s r u h
