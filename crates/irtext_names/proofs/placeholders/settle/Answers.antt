use Rattle.std.proofs.Common.{◌∙◌, sym, subst}
use Rattle.irtext_graph.specs.Erasing.{owner, CanErase}
use Rattle.irtext_graph.specs.Graph.{IsNew}
use Rattle.irtext_graph.proofs.Closed.{older_on}
use Rattle.irtext_names.proofs.SameBut.{defined_is_live, same_age, still_placeholder}
use Rattle.irtext_names.proofs.Settled.{replaced_same, unused, placeholder_goes, inside_itself, goes_alone, unused_below}
use Rattle.irtext_names.proofs.placeholders.settle.Goals as goal

pub erase-requires-clause-alive : goal.erase-requires-clause-alive
erase-requires-clause-alive g c =
    let p = still_placeholder (replaced_same c.replace_all_uses.ensures.replaces) c.args.d (λ f. cc) c.requires.placeholder in
    rw c.owner_of.ensures (defined_is_live c.replace_all_uses.new.self c.args.d p.alive)

pub erase-requires-clause-can : goal.erase-requires-clause-can
erase-requires-clause-can g c =
    let r = c.replace_all_uses.ensures.replaces in
    let p = still_placeholder (replaced_same r) c.args.d (λ f. cc) c.requires.placeholder in
    subst (CanErase c.replace_all_uses.new.self) (sym c.owner_of.ensures) (placeholder_goes p c.keeps_nesting.ensures.forest (λ u x e. c.keeps_nesting.ensures.uses u x e) (unused r c.requires.differ))

pub returns-clause-settles : goal.returns-clause-settles
returns-clause-settles g c =
    let r = c.replace_all_uses.ensures.replaces in
    let p = still_placeholder (replaced_same r) c.args.d (λ f. cc) c.requires.placeholder in
    record {
      between = c.replace_all_uses.new.self;
      replaces = r;
      only = inside_itself p c.keeps_nesting.ensures.forest;
      takes_out = rw (← c.owner_of.ensures) c.erase.ensures.erases;
    }

pub returns-clause-kept : goal.returns-clause-kept
returns-clause-kept g c = λ m closed new.
    let r = c.replace_all_uses.ensures.replaces in
    let p = still_placeholder (replaced_same r) c.args.d (λ f. cc) c.requires.placeholder in
    let late : IsNew m c.replace_all_uses.new.self (owner c.args.d) = same_age m c.args.graph.now c.replace_all_uses.new.self (owner c.args.d) ((replaced_same r).contents (owner c.args.d) (λ f. cc)) ∙ new in
    let w = goes_alone c.owner_of.result c.owner_of.ensures p c.keeps_nesting.ensures.forest m late in
    older_on m c.args.graph.now c.replace_all_uses.new.self c.erase.new.self (c.replace_all_uses.ensures.kept m (unused_below m c.args.graph.now c.args.d closed new)) (c.erase.ensures.kept m w.0 w.1)
