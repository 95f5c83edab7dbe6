use Rattle.std.proofs.Common.{◌≡◌, ◌++◌, ◌∷◌, [], sym, ◌∙◌, true, subst, ap, length}
use Rattle.std.proofs.lemmas.Str.{cons_from_encodes}
use Rattle.irtext_base.specs.Reading.{the}
use Rattle.irtext_base.specs.Text.{begins}
use Rattle.irtext_tokens.specs.Spelled.{Spelling}
use Rattle.irtext_tokens.proofs.Characters.{encodes-nil}
use Rattle.irtext_tokens.proofs.Spelling.{spelling_start, spelling_more, spelling_all}
use Rattle.irtext_tokens.proofs.irfmt.parsers.fixed_text.spell.Goals as goal

pub loop-c-init : goal.loop-c-init
loop-c-init g c =
    let m = g.met.S.CharStream in
    let r = sym (ap (λ i. i.rest.now) c.into_iter-c-iterator.ensures.into_iter_gives ∙ c.chars-c-items.ensures.rest) in
    (tt, tt, λ word e. ([], word, e ∙ r, spelling_start g.S.CharStream.view g.S.CharStream.at m.view_at m.at_view m.at_at word c.args.stream.now))

pub returns-then-not-next_is : goal.returns-then-not-next_is
returns-then-not-next_is g c = λ word q.
    let now = c.loop-c.stream in
    let i = c.loop-c.invariant.2 word q in
    let d = cons_from_encodes i.1 c.next.new.self.rest.now c.in-Some.c (i.2 ∙ c.in-Some.ensures.steps.0) in
    let s = subst (λ l. Spelling g.S.CharStream.view g.S.CharStream.at word c.args.stream.now now c.loop-c.begun i.0 l) d.1 i.3 in
    record { taken = i.0; next = c.in-Some.c; left = d.0; spelling = s; other = sym c.next_is.ensures ∙ c.if-not-next_is.true }

pub loop-c-preserved : goal.loop-c-preserved
loop-c-preserved g c =
    let m = g.met.S.CharStream in
    let now = c.loop-c.stream in
    let e : begins (the c.in-Some.c) (g.S.CharStream.view now).rest ≡ true = sym c.next_is.ensures ∙ c.if-not-next_is.false in (
      tt,
      tt,
      λ word q.
          let i = c.loop-c.invariant.2 word q in
          let d = cons_from_encodes i.1 c.next.new.self.rest.now c.in-Some.c (i.2 ∙ c.in-Some.ensures.steps.0) in
          let s = subst (λ l. Spelling g.S.CharStream.view g.S.CharStream.at word c.args.stream.now now c.loop-c.begun i.0 l) d.1 i.3 in
          (i.0 ++ (c.in-Some.c ∷ []), d.0, d.2, spelling_more g.S.CharStream.view g.S.CharStream.at m.view_at m.at_view m.at_at word c.args.stream.now now c.take.new.self c.loop-c.begun i.0 d.0 c.in-Some.c s e c.take.ensures.after),
    )

pub returns : goal.returns
returns g c = λ word q.
    let m = g.met.S.CharStream in
    let i = c.loop-c.invariant.2 word q in
    let n = encodes-nil i.1 (ap length i.2 ∙ c.in-None.ensures.steps.0.0) in
    let s = subst (λ l. Spelling g.S.CharStream.view g.S.CharStream.at word c.args.stream.now c.loop-c.stream c.loop-c.begun i.0 l) n i.3 in
    spelling_all g.S.CharStream.view g.S.CharStream.at m.view_at m.at_view m.at_at word c.args.stream.now c.loop-c.stream c.loop-c.begun i.0 s
