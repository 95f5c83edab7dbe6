-- A tree that is parsed has, at each operation, the parts of its format, and a part for each region; the operations of what is written
-- of a graph that fits are of accepted formats.
use Rattle.std.proofs.Common.{◌≡◌, Some}
use Rattle.std.specs.Prelude.{⊤}
use Rattle.irtext_base.specs.Text.{Text, after_space}
use Rattle.irtext_base.specs.Reading.{the}
use Rattle.irtext_base.specs.Format.{Format, Accepted, Id}
use Rattle.irtext_base.specs.Own.{Language}
use Rattle.irtext_grammar.specs.Grammar.Forest.{Regions, no_regions, region, Blocks, no_blocks, block, Operations, no_operations, operation, AllRegions, AllBlocks, AllOperations}
use Rattle.irtext_grammar.specs.Grammar.Tree.{Op, Head, Brace, shown, elided, Tree, IsOf, parts_of}
use Rattle.irtext_grammar.specs.Spelling.Spellable.{Enough}
use Rattle.irtext_grammar.proofs.Grammar.Nested.{ShownWith, BlocksWith, OperationsWith}
use Rattle.irtext_grammar.proofs.Grammar.ListReadings.{AllUsed, repeated_used, parts_used, block_used}
use Rattle.irtext_grammar.specs.Grammar.Reads.{operation_read, region_readings, block_readings, operation_readings, reads}

module _ {P T A : Type 0} where
  -- An operation's body is one of an accepted format, and has a place for each of its regions.
  pub record FormedOp (o : Op P T A) (rs : Regions (Op P T A) (Head P T A) (Brace P)) : Type 0 where
    pub format : Format
    pub accepted : Accepted format
    pub is_of : IsOf format o.body
    pub enough : Enough (parts_of o.body) rs

  -- each operation inside has the parts of its format, and no region is elided
  abbrev pub FormedRegions : Regions (Op P T A) (Head P T A) (Brace P) → Type 0
  FormedRegions rs = ShownWith FormedOp rs

  -- the same of blocks
  abbrev pub FormedBlocks : Blocks (Op P T A) (Head P T A) (Brace P) → Type 0
  FormedBlocks bs = BlocksWith FormedOp bs

  -- the same of operations
  abbrev pub FormedOperations : Operations (Op P T A) (Head P T A) (Brace P) → Type 0
  FormedOperations os = OperationsWith FormedOp os

  -- each operation of a tree has the parts of its format
  abbrev pub Formed : Tree P T A → Type 0
  Formed t = FormedOp t.own t.regions × FormedRegions t.regions

module _ {P T A : Type 0} (L : Language P T A) where
  -- no text parses as a region that was left out
  abbrev pub NoneLeftOut : Type 0
  NoneLeftOut = (text rest : Text) → L.left_out text rest → ⊥

  -- the operation's format, where it is known, is accepted
  abbrev pub KnownAccepted : Op P T A → Type 0
  KnownAccepted o = (f : Format) → L.format_of o.id ≡ Some f → Accepted f

  abbrev Own : Type 0
  Own = Regions (Op P T A) (Head P T A) (Brace P)

  op_read : (o : Op P T A) (rs : Own) (text rest : Text) → KnownAccepted o → operation_read L o (region_readings L rs) text rest → FormedOp o rs × AllUsed (region_readings L rs)
  op_read o rs text rest a (at, ((f, known, is), (between, names, (following, id, (last, body, mark))))) =
      let r = parts_used L (parts_of o.body) rs following last body in
      (record { format = f; accepted = a f known; is_of = is; enough = r.0 }, r.1)

  module _ (none : NoneLeftOut) where
    mutual
      regions_read : (rs : Own) → AllRegions KnownAccepted (λ b. ⊤) (λ r. ⊤) rs → AllUsed (region_readings L rs) → FormedRegions rs
      regions_read no_regions a h = tt
      regions_read (region elided no_blocks rs) a h = absurd (none h.0.0 h.0.1 h.0.2)
      regions_read (region elided (block g os bs) rs) a h = absurd h.0.2
      regions_read (region (shown place) bs rs) a ((text, rest, (at, (b, left, (c, blocks, right)))), others) =
          (blocks_read bs a.1 (repeated_used (the 94) (block_readings L bs) (after_space b) c blocks), regions_read rs a.2 others)

      blocks_read : (bs : Blocks (Op P T A) (Head P T A) (Brace P)) → AllBlocks KnownAccepted (λ b. ⊤) (λ r. ⊤) bs → AllUsed (block_readings L bs) → FormedBlocks bs
      blocks_read no_blocks a h = tt
      blocks_read (block g os bs) a ((text, rest, h), others) = (operations_read os a.1 (block_used L g (operation_readings L os) text rest h), blocks_read bs a.2 others)

      operations_read : (os : Operations (Op P T A) (Head P T A) (Brace P)) → AllOperations KnownAccepted (λ b. ⊤) (λ r. ⊤) os → AllUsed (operation_readings L os) → FormedOperations os
      operations_read no_operations a h = tt
      operations_read (operation o rs os) a h =
          let r = op_read o rs h.0.0 h.0.1 a.0 h.0.2 in
          ((r.0, regions_read rs a.1 r.1), operations_read os a.2 h.1)

  -- the known formats of a tree's operations are accepted
  abbrev pub AllAccepted : Tree P T A → Type 0
  AllAccepted t = KnownAccepted t.own × AllRegions KnownAccepted (λ b. ⊤) (λ r. ⊤) t.regions

  -- a tree that is parsed, in which no region is left out, has the parts of its formats
  pub formed_read : NoneLeftOut → (t : Tree P T A) (text rest : Text) → AllAccepted t → reads L t text rest → Formed t
  formed_read none t text rest a h = let r = op_read t.own t.regions text rest a.0 h in (r.0, regions_read none t.regions a.1 r.1)

  -- of all operations
  module _ (each : (id : Id) (f : Format) → L.format_of id ≡ Some f → Accepted f) where
    mutual
      each_regions : (rs : Own) → AllRegions KnownAccepted (λ b. ⊤) (λ r. ⊤) rs
      each_regions no_regions = tt
      each_regions (region b bs rs) = (tt, each_blocks bs, each_regions rs)

      each_blocks : (bs : Blocks (Op P T A) (Head P T A) (Brace P)) → AllBlocks KnownAccepted (λ b. ⊤) (λ r. ⊤) bs
      each_blocks no_blocks = tt
      each_blocks (block h os bs) = (tt, each_operations os, each_blocks bs)

      each_operations : (os : Operations (Op P T A) (Head P T A) (Brace P)) → AllOperations KnownAccepted (λ b. ⊤) (λ r. ⊤) os
      each_operations no_operations = tt
      each_operations (operation o rs os) = (each o.id, each_regions rs, each_operations os)

    -- where all formats of a language are accepted, so are those of a tree's operations
    pub each_accepted : (t : Tree P T A) → AllAccepted t
    each_accepted t = (each t.own.id, each_regions t.regions)
