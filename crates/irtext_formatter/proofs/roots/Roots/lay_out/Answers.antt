use Rattle.std.proofs.Common.{refl}
use Rattle.irtext_formatter.proofs.Newer.{new_itself}
use Rattle.irtext_formatter.proofs.Rooted.{back_still}
use Rattle.irtext_formatter.specs.Stands.{held_by}
use Rattle.irtext_formatter.proofs.roots.Roots.lay_out.Goals as goal

pub returns-then-is_leaf-clause-back : goal.returns-then-is_leaf-clause-back
returns-then-is_leaf-clause-back g c = λ inside before can.
    back_still c.args.self.now _ before refl (c.keep_place.ensures.kept c.args.self.now.made (new_itself c.args.self.now.made c.args.root (held_by c.args.self.now) inside)) can

pub returns-then-not-layout-clause-back : goal.returns-then-not-layout-clause-back
returns-then-not-layout-clause-back g c = λ inside before can.
    back_still c.args.self.now _ before refl (c.erase_in.ensures.kept c.args.self.now.made inside) can
