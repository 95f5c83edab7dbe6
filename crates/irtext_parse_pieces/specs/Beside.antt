-- Between functions: a value beside the result of a parser that came after it.
use Rattle.std.specs.Prelude.{Result, Ok, Err, Option, Some}

-- both values, or the error
abbrev pub paired : {X Y E : Type 0} → X → Result Y E → Result (X × Y) E
paired x (Ok y) = Ok (x, y)
paired x (Err fault) = Err fault

-- the first value, or the error
abbrev pub closed : {X U E : Type 0} → X → Result U E → Result X E
closed x (Ok u) = Ok x
closed x (Err fault) = Err fault

-- the value as one that is there, or the error
abbrev pub present : {X E : Type 0} → Result X E → Result (Option X) E
present (Ok x) = Ok (Some x)
present (Err fault) = Err fault
