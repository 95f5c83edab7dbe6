use Rattle.std.proofs.Common.{rules, arith, ◌≡◌, ◌∷◌, [], sym, subst, ◌∙◌, ap}
use Rattle.std.specs.Prelude.{IfErr, OnOk}
use Rattle.irtext_grammar.specs.Forms.{pieces_of, form_pieces}
use Rattle.irtext_grammar.specs.Found.{with_words}
use Rattle.irtext_names.specs.Gathering.{CanGather, Gathers, RefusesGathering}
use Rattle.irtext_names.proofs.Steady.{steady_itself, steady_both}
use Rattle.irtext_names.proofs.Gathers.{can_first, can_after, gathers_then, fails_at_then}
use Rattle.irtext_names.proofs.Ordering.{none_left}
use Rattle.irtext_names.proofs.Pieces.{gather_refused_first, gather_refused_from}
use Rattle.irtext_names.proofs.Words.{can_after_words, gathers_words, words_refused, gathers_last}
use Rattle.irtext_names.proofs.operation_parts.gather.Goals as goal

pub returns-in-Canonical-clause-refused : goal.returns-in-Canonical-clause-refused
returns-in-Canonical-clause-refused g c =
    let e : pieces_of c.in-Canonical.pieces ≡ c.args.pieces = ap form_pieces (sym c.in-Canonical.is) ∙ c.into_form.ensures in
    subst (λ ps. IfErr c.canonical_gathered.result (RefusesGathering ps c.args.names.now c.args.graph.now)) e c.canonical_gathered.ensures.refused

pub returns-in-Canonical-clause-gathers : goal.returns-in-Canonical-clause-gathers
returns-in-Canonical-clause-gathers g c =
    let e : pieces_of c.in-Canonical.pieces ≡ c.args.pieces = ap form_pieces (sym c.in-Canonical.is) ∙ c.into_form.ensures in
    let new = c.canonical_gathered.new in
    subst (λ ps. OnOk c.canonical_gathered.result (Gathers ps c.args.names.now c.args.graph.now c.args.gathered.now new.names new.graph new.gathered)) e c.canonical_gathered.ensures.gathers

pub loop-found-init : goal.loop-found-init
loop-found-init g c =
    let rest : c.into_iter-found-iterator.result.rest.items ≡ c.into_found-found-items.result.items = search rules in
    let words = c.into_found-found-items.ensures.0 in
    let given : c.in-Custom.custom ≡ c.args.pieces = ap form_pieces (sym c.in-Custom.is) ∙ c.into_form.ensures in
    let e : with_words c.into_iter-found-iterator.result.rest.items words ≡ c.args.pieces = ap (λ fs. with_words fs words) rest ∙ (sym c.into_found-found-items.ensures.1 ∙ given) in
    record {
      words = words;
      steady = steady_itself c.args.names.now c.args.graph.now c.requires.tied;
      can = subst (CanGather c.args.names.now c.args.gathered.now.operands.list.items c.args.gathered.now.successors.list.items) (sym e) c.requires.can;
      gathers = λ new h z s. subst (λ ps. Gathers ps c.args.names.now c.args.graph.now c.args.gathered.now new h z) e s;
      fails = λ r s. subst (λ ps. RefusesGathering ps c.args.names.now c.args.graph.now r) e s;
    }

pub piece_gathered-requires-clause-can : goal.piece_gathered-requires-clause-can
piece_gathered-requires-clause-can g c =
    let l = c.loop-found in
    let f = c.in-Some.found in
    let ps = with_words c.next.new.self.rest.items l.invariant.words in
    can_first l.names l.gathered.operands.list.items l.gathered.successors.list.items f.1 ps
    (can_after_words l.names l.gathered.operands.list.items l.gathered.successors.list.items (f.1 ∷ ps) f.0
    (subst (λ fs. CanGather l.names l.gathered.operands.list.items l.gathered.successors.list.items (with_words fs l.invariant.words)) c.in-Some.ensures.steps.0 l.invariant.can))

pub piece_gathered-requires-clause-tied : goal.piece_gathered-requires-clause-tied
piece_gathered-requires-clause-tied g c = c.loop-found.invariant.steady.tied

pub loop-found-preserved : goal.loop-found-preserved
loop-found-preserved g c =
    let l = c.loop-found in
    let i = l.invariant in
    let f = c.in-Some.found in
    let ps = with_words c.next.new.self.rest.items i.words in
    let steps = c.in-Some.ensures.steps.0 in
    let s = c.piece_gathered.ensures.steady in
    let t = c.in_default.ensures.gathers in
    let new = c.piece_gathered.new in
    record {
      words = i.words;
      steady = steady_both i.steady s;
      can = can_after l.names new.names l.gathered.operands.list.items new.gathered.operands.list.items l.gathered.successors.list.items new.gathered.successors.list.items f.1 ps s.names
          t.operands_unlisted t.successors_unlisted
          (can_after_words l.names l.gathered.operands.list.items l.gathered.successors.list.items (f.1 ∷ ps) f.0
          (subst (λ fs. CanGather l.names l.gathered.operands.list.items l.gathered.successors.list.items (with_words fs i.words)) steps i.can));
      gathers = λ names h z r. i.gathers names h z (subst (λ fs. Gathers (with_words fs i.words) l.names l.graph l.gathered names h z) (sym steps)
          (gathers_words l.names l.graph l.gathered f.0 (f.1 ∷ ps) (gathers_then f.1 ps s.names t r)));
      fails = λ r h. i.fails r (subst (λ fs. RefusesGathering (with_words fs i.words) l.names l.graph r) (sym steps)
          (words_refused l.names l.graph l.gathered f.0 (f.1 ∷ ps) r
          (gather_refused_from ps (f.1 ∷ ps) l.names new.names l.graph new.graph s.names (λ is cause k. fails_at_then f.1 ps s.names t k) r h)));
    }

pub returns-in-Err-clause-steady : goal.returns-in-Err-clause-steady
returns-in-Err-clause-steady g c = steady_both c.loop-found.invariant.steady c.piece_gathered.ensures.steady

pub returns-in-Err-clause-refused : goal.returns-in-Err-clause-refused
returns-in-Err-clause-refused g c =
    let l = c.loop-found in
    let f = c.in-Some.found in
    let ps = with_words c.next.new.self.rest.items l.invariant.words in
    let steps = c.in-Some.ensures.steps.0 in
    l.invariant.fails _ (subst (λ fs. RefusesGathering (with_words fs l.invariant.words) l.names l.graph c.in-Err.refusal) (sym steps)
    (words_refused l.names l.graph l.gathered f.0 (f.1 ∷ ps) _ (gather_refused_first f.1 ps l.names l.graph _ c.in-Err.ensures.refused)))

pub returns-clause-steady : goal.returns-clause-steady
returns-clause-steady g c = c.loop-found.invariant.steady

pub returns-clause-gathers : goal.returns-clause-gathers
returns-clause-gathers g c =
    let l = c.loop-found in
    let words = l.invariant.words in
    let e = none_left l.found-iterator.rest.items (omega (arith, c.in-None.ensures.steps.0, l.found-iterator.rest.ok.0)) in
    l.invariant.gathers l.names l.graph l.gathered (subst (λ fs. Gathers (with_words fs words) l.names l.graph l.gathered l.names l.graph l.gathered) (sym e) (gathers_last l.names l.graph l.gathered words))
