use Rattle.std.proofs.Common.{◌≡◌, ◌<◌, length, set, get_or, arith, sym, ap, subst, ◌∙◌}
use Rattle.std.specs.Prelude.{vec_len}
use Rattle.std.specs.Box.{with_value}
use Rattle.std.specs.Vec.{with_item}
use Rattle.irtext_base.proofs.Released.{positive, first_less}
use Rattle.irtext_base.proofs.location.release.enter.Goals as goal

pub returns : goal.returns
returns g c =
    let v = c.deref_mut.result.now in
    let items = c.args.locations.value.items in
    let first = c.replace-first.result in
    let same : v.items ≡ items = ap (λ z. z.items) c.deref_mut.ensures.value in
    let some : 0 < vec_len c.deref.result.now = positive (vec_len c.deref.result.now) (sym c.is_empty.ensures ∙ c.if-is_empty.false) in
    let there : 0 < length items = omega (arith, some, ap vec_len c.deref.ensures, c.args.locations.value.ok.0) in
    let got : first ≡ get_or items 0 first = subst (λ z. first ≡ get_or z 0 first) same (subst (λ z. z ≡ get_or v.items 0 z) (sym c.replace-first.ensures.value) c.index_mut.ensures.value) in
    let put : set v.items 0 c.replace-first.new.dest ≡ set items 0 c.args.rest = ap (λ z. set z 0 c.replace-first.new.dest) same ∙ ap (set items 0) c.replace-first.ensures.after in
    first_less c.args.metadata (with_value c.args.locations (with_item v 0 c.replace-first.new.dest)) items first c.args.rest put got there
