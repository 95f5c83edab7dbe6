use Rattle.irtext_base.specs.contracts.base.attributes.AttrObjHash.TheImpl.Laws as of_attr
use Rattle.irtext_base.specs.Locations.{location_view}
use Rattle.irtext_base.specs.SameLocations.{view_fed}
use Rattle.irtext_tokens.proofs.laws.values.equal_ones_hash_alike.Goals as goal

pub returns-clause-attributes : goal.returns-clause-attributes
returns-clause-attributes g c = λ x y e.
    of_attr.respects_eq-law g.row.A g.A.Hash g.A.Hash-dict g.A.Eq g.A.Eq-dict g.A.PartialEq g.A.PartialEq-dict
    (record { respects_eq = g.met.A.Hash.respects_eq }) (record { laws = g.met.A.Eq.laws }) (record { laws = g.met.A.PartialEq.laws }) x y e

pub returns-clause-locations : goal.returns-clause-locations
returns-clause-locations g c = λ k l e. view_fed g.A.PartialEq.eq g.A.Hash.hash_input g.met.A.Hash.respects_eq (location_view k) (location_view l) e
