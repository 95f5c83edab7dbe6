use Rattle.std.proofs.Common.{◌<◌, arith, sym, ap, ◌∙◌}
use Rattle.std.specs.Prelude.{vec_len}
use Rattle.std.specs.Box.{with_value}
use Rattle.irtext_base.proofs.Released.{positive, last_less}
use Rattle.irtext_base.proofs.location.release.take_last.Goals as goal

pub returns : goal.returns
returns g c =
    let some : 0 < vec_len c.deref.result.now = positive (vec_len c.deref.result.now) (sym c.is_empty.ensures ∙ c.if-is_empty.false) in
    last_less c.args.metadata (with_value c.args.locations c.pop.new.self) c.args.locations.value.items c.in-Some.last
    (ap (λ v. v.items) (sym c.deref_mut.ensures.value) ∙ c.in-Some.ensures.items) (omega (arith, some, ap vec_len c.deref.ensures, c.pop.new.self.ok.0))
