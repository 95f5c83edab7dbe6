-- The texts that say how two contexts know an operation otherwise.
use Rattle.std.specs.Prelude.{◌++◌, ℕ, List, codes}
use Rattle.irtext_alike.specs.declared.unlike.Unlike.{Unlike}
use Rattle.irtext_alike.specs.declared.unlike.Unlike.TheVariants.{Unregistered, RegisteredThere, OtherFormat, OtherIsolation}
use Rattle.irtext_alike.specs.declared.unlike.UnlikeOperation.{UnlikeOperation}

-- how an operation is known otherwise, in bytes
abbrev pub unlike_text : Unlike → List ℕ
unlike_text Unregistered = codes "not registered in the other context"
unlike_text RegisteredThere = codes "registered in the other context alone"
unlike_text OtherFormat = codes "registered with another format"
unlike_text OtherIsolation = codes "isolated from above in one context alone"

-- the text of an operation that is known otherwise
abbrev pub operation_text : UnlikeOperation → List ℕ
operation_text unlike = codes "An operation is " ++ unlike_text unlike.why
