-- If the parsers reject a text, for a failure of names, for one among the parts of the operation before its first region or for a key, it is
-- the first failure of every tree that the text parses as, whatever section follows; and if they are stuck elsewhere, it parses as no tree.
use Rattle.std.proofs.Common.{◌≡◌, ◌∙◌, ℕ, false, List, [], ◌∷◌, Some, refl, sym, ap, subst}
use Rattle.irtext_base.specs.Text.{Text}
use Rattle.irtext_base.specs.Answers.{Outcome}
use Rattle.irtext_base.specs.Faults.{Fault, fault_of}
use Rattle.irtext_base.specs.Own.{texts_of}
use Rattle.irtext_base.specs.Paths.{Written}
use Rattle.irtext_base.specs.Stream.{StreamView}
use Rattle.irtext_base.specs.declared.parsable.fault.ParseFault.{ParseFault}
use Rattle.irtext_context.specs.Dialects.{Table}
use Rattle.irtext_tokens.specs.AttrTexts.{attr_at}
use Rattle.irtext_grammar.specs.Contexts.Formats.{format_of, isolated}
use Rattle.irtext_grammar.specs.Contexts.Held.{whole, IsPosition}
use Rattle.irtext_grammar.specs.Grammar.Reads as grammar
use Rattle.irtext_grammar.specs.Grammar.Section.{Entry}
use Rattle.irtext_grammar.specs.Grammar.Tree.{Tree}
use Rattle.irtext_grammar.specs.Names.Acts.{tree_script, section_acts, rule_of, failures_of}
use Rattle.irtext_grammar.specs.Names.History as history
use Rattle.irtext_grammar.specs.Names.History.{going, failed, start, run, events}
use Rattle.irtext_grammar.specs.Names.Scopes.{no_scope}
use Rattle.irtext_grammar.specs.Names.Script.{Path, Cause, Failure, does_all, done}
use Rattle.irtext_grammar.specs.Names.TextScopes.{Script, failures}
use Rattle.irtext_grammar.proofs.Joins.Answers.{Splits}
use Rattle.irtext_grammar.specs.Exact.{NeedsWord}
use Rattle.irtext_grammar.specs.Entries.{fault_for}
use Rattle.irtext_grammar.specs.Naming.{naming, Names}
use Rattle.irtext_grammar.specs.Promises.Root.{IsCause, IsPlace}
use Rattle.irtext_grammar.specs.Reached.{Reached, Stopped, operation_at, do_tree}
use Rattle.irtext_grammar.specs.Resume.{EndsIn}
use Rattle.irtext_grammar.proofs.OwnCauses.{own_and_named}
use Rattle.irtext_grammar.proofs.Knot.Whole as knot
use Rattle.irtext_grammar.proofs.Knot.Outside.{TreeOutside, as_inside, at_front, at_key, tree_outside, tree_led}
use Rattle.irtext_grammar.proofs.Naming.Follows.{broke}
use Rattle.irtext_grammar.proofs.Naming.Places.{names_exist}
use Rattle.irtext_grammar.proofs.Naming.Runs.{runs_before}
use Rattle.irtext_grammar.proofs.Naming.Scripts.{formats_read}
use Rattle.irtext_grammar.proofs.Naming.Shorter.{Shortens}
use Rattle.irtext_names.proofs.Linked.Passes.{ran_into}
use Rattle.irtext_names.specs.Promises.{IsOf, IsFirst, FailsFirst, HasFault, at_text, by_names, RefusesTree}

-- where nothing is done any more, what failed stays failed
stays_failed : (f : Failure Text ℕ) (es : List history.Event) → run (failed f) es ≡ failed f
stays_failed f [] = refl
stays_failed f (e ∷ es) = stays_failed f es

-- the first of failures that begin so
pub first_is : {A : Type 0} (text : Text) (f : Failure Text ℕ) (fs gs : List (Failure Text ℕ)) (fault : ParseFault A) → fs ≡ f ∷ gs → IsOf text f fault → IsFirst text fs fault
first_is text f fs gs fault e h = subst (λ z. IsFirst text z fault) (sym e) h

-- the cause that parsers return for a failure is the cause of the failure
pub own_cause : (c : Cause Text) → IsCause c (fault_for c)
own_cause c = (own_and_named c).0

-- the state at which a parse is stuck
pub stuck_state : {X S : Type 0} (s t : S) (cause other : Fault) (here place : ℕ) → ◌≡◌ {A = Reached X S} (Stopped s cause here) (Stopped t other place) → s ≡ t
stuck_state s t cause other here place e = cc e

-- a fault of the text at which a parse is stuck for a failure is this failure
pub stuck_of : {A X S : Type 0} (text : Text) (f : Failure Text ℕ) (place at : ℕ) (cause : Fault) (s t : S) (fault : ParseFault A) → ◌≡◌ {A = Reached X S} (Stopped s (fault_for f.cause) at) (Stopped t cause place) → f.at ≡ Some at
    → fault_of fault.cause ≡ cause → IsPosition text place fault.pos → IsOf text f fault
stuck_of text f place at cause s t fault e a because position =
    let c : fault_for f.cause ≡ cause = cc e in
    let p : at ≡ place = cc e in
    (subst (IsCause f.cause) (c ∙ sym because) (own_cause f.cause), subst (λ o. IsPlace text o fault.pos) (sym (a ∙ ap Some p)) position)

module _ {T A : Type 0} (types_at : Text → Outcome T) (types_written : T → Text) (reading : Text → Outcome A) (written : A → Text) (dialects : List (Text × Table)) (types_split : Splits types_at) (splits : Splits reading) (words : NeedsWord reading)
    (short_types : Shortens (texts_of types_at types_written)) (short_owns : Shortens (texts_of reading written)) where
  module _ (text rest : Text) (fault : ParseFault A) (x : Tree ℕ T A) (left : Text) (r : grammar.reads (knot.L types_at types_written reading written dialects) x rest left) (then : Script) where
    abbrev all_failures : List (Failure Text ℕ)
    all_failures = failures no_scope (tree_script (isolated dialects) x then)

    -- what the actions of the tree fail with is the first failure
    fails_so : (p : (path : ℕ → Path) × Names path x) (f : Failure Text ℕ) → do_tree (isolated dialects) (naming (format_of dialects) p.0) x (going start) ≡ failed f → IsOf text f fault → IsFirst text all_failures fault
    fails_so p f does is =
        let types = texts_of types_at types_written in
        let owns = texts_of reading written in
        let formed = formats_read types owns (format_of dialects) x rest left r in
        let ran : run (going start) (events (tree_script (isolated dialects) x then)) ≡ failed f =
        runs_before (format_of dialects) p.0 (isolated dialects) x p.1 formed then (going start) ∙ (ap (λ z. run z (events then)) does ∙ stays_failed f (events then)) in
        let all = ran_into (tree_script (isolated dialects) x then) f ran in
        first_is text f all_failures all.0 fault all.1 is

    abbrev Outside : (ℕ → Path) → Type 0
    Outside path = TreeOutside types_at types_written reading written dialects types_split splits words path x rest left (going start)

    -- the parser is stuck at the text
    text_first : (p : (path : ℕ → Path) × Names path x) (cause : Fault) (place : ℕ) (st : history.State) → fault_of fault.cause ≡ cause → IsPosition text place fault.pos
        → operation_at dialects types_at (attr_at reading) (naming (format_of dialects) p.0) false rest (going start) ≡ Stopped (going st) cause place → Outside p.0 → IsFirst text all_failures fault
    text_first p cause place st because at stuck (as_inside e) = absurd (cc (e, stuck))
    text_first p cause place st because at stuck (at_front f here e a fails) =
        let o = fails then in
        first_is text f all_failures o.0 fault o.1 (stuck_of text f place here cause (going start) (going st) fault (sym e ∙ stuck) a because at)
    text_first p cause place st because at stuck (at_key u f here e a did) =
        let same : u ≡ going st = stuck_state u (going st) (fault_for f.cause) cause here place (sym e ∙ stuck) in
        fails_so p f (did ∙ ap (λ u. failed (broke u f)) same) (stuck_of text f place here cause u (going st) fault (sym e ∙ stuck) a because at)

    -- a name fails
    name_first : (p : (path : ℕ → Path) × Names path x) (f : Failure Text ℕ) → IsOf text f fault
        → EndsIn (failed f) (operation_at dialects types_at (attr_at reading) (naming (format_of dialects) p.0) false rest (going start)) → Outside p.0 → IsFirst text all_failures fault
    name_first p f is ends (as_inside e) = fails_so p f (subst (EndsIn (failed f)) e ends) is
    name_first p f is ends (at_front g here e a fails) = absurd (let z : going start ≡ failed f = subst (EndsIn (failed f)) e ends in cc z)
    name_first p f is ends (at_key u g here e a did) =
        let same : u ≡ failed f = subst (EndsIn (failed f)) e ends in
        fails_so p f (did ∙ ap (λ u. failed (broke u g)) same) is

  -- a fault of the text, or of a name, is the first failure of each tree that the text parses as, whatever script follows
  pub refuses_first : (text rest : Text) (fault : ParseFault A) → HasFault {T = T} types_at (attr_at reading) dialects [] text rest fault → (x : Tree ℕ T A) (left : Text) → grammar.reads (knot.L types_at types_written reading written dialects) x rest left → (then : Script)
      → FailsFirst text (failures no_scope (tree_script (isolated dialects) x then)) fault
  refuses_first text rest fault (at_text cause place because at flag stuck) x left r then =
      let p = names_exist (texts_of types_at types_written) (texts_of reading written) (format_of dialects) short_types short_owns x rest left r in
      let k = stuck p.0 in
      record {
        first = text_first text rest fault x left r then p cause place k.0 because at k.1 (tree_outside types_at types_written reading written dialects types_split splits words p.0 x rest left (going start) r);
        flag = flag ∙ tree_led types_at types_written reading written dialects types_split splits words x rest left r;
      }
  refuses_first text rest fault (by_names f is flag ends) x left r then =
      let p = names_exist (texts_of types_at types_written) (texts_of reading written) (format_of dialects) short_types short_owns x rest left r in
      record {
        first = name_first text rest fault x left r then p f is (ends p.0) (tree_outside types_at types_written reading written dialects types_split splits words p.0 x rest left (going start) r);
        flag = flag;
      }

  -- so the promise of an error is kept, with no section
  pub refuses_tree : (old : StreamView) (fault : ParseFault A) → HasFault {T = T} types_at (attr_at reading) dialects [] (whole old) old.rest fault → RefusesTree (texts_of types_at types_written) (texts_of reading written) types_at (attr_at reading) dialects old fault
  refuses_tree old fault h = record { first = λ tree rest r. refuses_first (whole old) old.rest fault h tree rest r done; at_fault = h }

  -- and with one, if the operation itself is an error
  pub refuses_root : (old : StreamView) (fault : ParseFault A) → HasFault {T = T} types_at (attr_at reading) dialects [] (whole old) old.rest fault → (tree : Tree ℕ T A) (entries : List (Entry ℕ A (Written A))) (mid : Text)
      → grammar.reads (knot.L types_at types_written reading written dialects) tree old.rest mid → IsFirst (whole old) (failures_of (isolated dialects) tree entries) fault
  refuses_root old fault h tree entries mid r = (refuses_first (whole old) old.rest fault h tree mid r (does_all (section_acts (rule_of tree) entries) done)).first
