-- Why a printing fails.
use Rattle.irtext_print.specs.declared.printable.refusal.Refusal.{Refusal}
use Rattle.irtext_print.specs.declared.printable.refusal.Refusal.TheVariants.{Memory, Depth, Misfit}

-- an allocation was refused
abbrev pub IsMemory : Refusal → Type 0
IsMemory (Memory e) = Unit {0}
IsMemory Depth = ⊥
IsMemory Misfit = ⊥

-- the error is another one than out of memory
abbrev pub IsOther : Refusal → Type 0
IsOther e = IsMemory e → ⊥
