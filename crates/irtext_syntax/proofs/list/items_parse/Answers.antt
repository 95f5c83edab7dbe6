use Rattle.std.proofs.Common.{Ok, List, Vec, Global, refl}
use Rattle.irtext_base.specs.Answers.{Outcome, mapped}
use Rattle.irtext_base.specs.Text.{Text}
use Rattle.irtext_tokens.proofs.Exits.{propagated}
use Rattle.irtext_tokens.proofs.Steps.{alone, first, refuses_seen, last_seen}
use Rattle.irtext_syntax.specs.FixedTexts.{close_at}
use Rattle.irtext_syntax.proofs.ItemsRead.{separated_read}
use Rattle.irtext_syntax.proofs.list.items_parse.Goals as goal

-- the closing bracket after the items
abbrev after_items : {X : Type 0} → Text → List X → Text → Outcome (List X)
after_items closer items t = mapped (λ _. items) (close_at closer t)

pub returns-in_err-close_demanded : goal.returns-in_err-close_demanded
returns-in_err-close_demanded g c =
    let read = separated_read (λ (v : Vec g.row.P.Denot Global). v.items) g.P.Part.text.reading c.separator.result g.B.Separated.separator c.args.stream.now c.separated_parse.new.stream (Ok c.in_ok-items.items) c.separator.ensures c.in_ok-items.ensures in
    rw (propagated c.from_residual-in_err-close_demanded.result c.from_residual-in_err-close_demanded.ensures.1) (refuses_seen alone (λ _. c.in_ok-items.items.items) (first alone (after_items g.B.Brackets.closer) read) c.in_err-close_demanded.ensures)

pub returns : goal.returns
returns g c =
    let read = separated_read (λ (v : Vec g.row.P.Denot Global). v.items) g.P.Part.text.reading c.separator.result g.B.Separated.separator c.args.stream.now c.separated_parse.new.stream (Ok c.in_ok-items.items) c.separator.ensures c.in_ok-items.ensures in
    last_seen alone (λ (v : Vec g.row.P.Denot Global). v.items) (λ _. c.in_ok-items.items.items) c.in_ok-items.items refl (first alone (after_items g.B.Brackets.closer) read) c.in_ok-close_demanded.ensures
