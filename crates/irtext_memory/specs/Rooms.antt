-- Why there is no room.
use Rattle.irtext_memory.specs.declared.NoRoom.{NoRoom}
use Rattle.irtext_memory.specs.declared.NoRoom.TheVariants.{Memory, Full}

-- there is no room since an allocation was refused
abbrev pub LacksMemory : NoRoom → Type 0
LacksMemory (Memory e) = Unit {0}
LacksMemory Full = ⊥
