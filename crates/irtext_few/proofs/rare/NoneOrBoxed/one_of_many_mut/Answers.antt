use Rattle.std.proofs.Common.{refl, rules}
use Rattle.irtext_few.proofs.rare.NoneOrBoxed.one_of_many_mut.Goals as goal

pub returns : goal.returns
returns g c = ((refl, λ w. rw c.deref_mut.ensures.value (rw c.in-Many.is refl)), record { lends = tt; value = search rules })
