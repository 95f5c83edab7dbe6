use Rattle.std.proofs.Common.{codes, refl, sym}
use Rattle.irtext_base.specs.Answers.{Outcome, mapped, followed}
use Rattle.irtext_base.specs.Faults.{AnOperation, id_of}
use Rattle.irtext_base.specs.Format.{Id}
use Rattle.irtext_base.specs.declared.base.identifier.OpId.{OpId}
use Rattle.irtext_base.specs.Text.{Text}
use Rattle.irtext_tokens.specs.Tokens.{word_at, text_at, identifier_at, id_at, id_with}
use Rattle.irtext_tokens.proofs.Exits.{propagated}
use Rattle.irtext_tokens.proofs.Steps.{Lens, lens, Passed, may_read, begins_with, begun_by, turned, mapped_followed, last_seen, refuses_seen}
use Rattle.irtext_tokens.proofs.irfmt.parsers.operation_id.id_parse.Given as given
use Rattle.irtext_tokens.proofs.irfmt.parsers.operation_id.id_parse.Goals as goal

-- the stream's view, and the rules that it keeps
abbrev stream : (g : given.Over) → Lens g.row.S.Denot
stream g = let m = g.met.S.CharStream in lens g.S.CharStream.view g.S.CharStream.at m.view_at m.at_view m.at_at

-- what follows the dialect
abbrev after_dialect : Text → Text → Outcome Id
after_dialect dialect text = followed (text_at (codes ".") text) (λ _ t. mapped (id_with dialect) (identifier_at t))

-- the name after the dialect
abbrev name_at : Text → Outcome Text
name_at text = followed (text_at (codes ".") text) (λ _ t. identifier_at t)

-- what follows the dialect is its name
named : {S : Type 0} (l : Lens S) {outcome : Text → Outcome Id} {old mid : S} (dialect : Text) → Passed l outcome (after_dialect dialect) old mid → Passed l outcome (λ t. mapped (id_with dialect) (name_at t)) old mid
named l {mid = mid} dialect p = turned l (λ t. mapped (id_with dialect) (name_at t)) (sym (mapped_followed (id_with dialect) (text_at (codes ".") (l.view mid).rest) (λ _ t. identifier_at t))) p

pub returns-in_err-name : goal.returns-in_err-name
unfolding id_at
returns-in_err-name g c =
    let d = may_read (stream g) (λ name. name) (word_at AnOperation) _ _ _ c.in_ok-dialect.ensures in
    let q = named (stream g) c.in_ok-dialect.dialect (begins_with (stream g) after_dialect d) in
    rw (propagated c.from_residual-in_err-name.result c.from_residual-in_err-name.ensures.1) (begun_by (stream g) {sees = id_of} after_dialect d (refuses_seen (stream g) (id_with c.in_ok-dialect.dialect) q c.in_err-name.ensures)).answers

pub returns : goal.returns
unfolding id_at
returns g c =
    let d = may_read (stream g) (λ name. name) (word_at AnOperation) _ _ _ c.in_ok-dialect.ensures in
    let q = named (stream g) c.in_ok-dialect.dialect (begins_with (stream g) after_dialect d) in
    let id : OpId = record { dialect = c.in_ok-dialect.dialect; name = c.in_ok-name.name } in
    (begun_by (stream g) {sees = id_of} after_dialect d (last_seen (stream g) id_of (id_with c.in_ok-dialect.dialect) id refl q c.in_ok-name.ensures)).answers
