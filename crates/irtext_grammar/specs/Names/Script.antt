-- For callers: what parsing a text does with names, one act after another, with regions nested in one another. N is the type of names,
-- and P the type of their places in the text. An item is an operation or a block that carries a mark.
use Rattle.std.specs.Prelude.{ℕ, Bool, List, [], ◌∷◌, Option, option_map}
use Rattle.irtext_base.specs.Text.{Text}

-- The path to a node of a tree: the indices of the regions, blocks and operations that lead to it, the innermost first.
abbrev pub Path : Type 0
Path = List ℕ

-- what a name can refer to
pub data Place : Type 0 where
  result : Path → ℕ → Place
  argument : Path → ℕ → Place
  block_at : Path → Place

-- where a name is used
pub data User : Type 0 where
  operand : Path → ℕ → User
  successor : Path → ℕ → User

-- a name, with its place in the text
pub record Word (N P : Type 0) : Type 0 where
  pub name : N
  pub at : P

-- why a text is rejected although it parses: with the counts, the name, the index or the key in question
pub data Cause (N : Type 0) : Type 0 where
  -- an operation has this many result types, and this many names for results
  ResultCount : ℕ → ℕ → Cause N
  -- no scope of its kind is open where the name is used or defined
  NoActiveScope : N → Cause N
  -- the name has no definition in its scope
  UnresolvedReference : N → Cause N
  -- the name has a second definition in its scope
  MultipleDefinitions : N → Cause N
  -- a region has no scope of values, neither its own nor one around it
  NotIsolated : Cause N
  -- two items have marks with this index
  DuplicateIndex : ℕ → Cause N
  -- an entry has an index that no item's mark has, or that an earlier entry has
  UnknownIndex : ℕ → Cause N
  -- a reference has an index that no print-once attribute has
  UnknownPrintOnce : ℕ → Cause N
  -- the key is reserved, and the attribute is not allowed under it there
  ReservedKey : Text → Cause N

-- a failure, with the place where it is reported, if it has one of its own
pub record Failure (N P : Type 0) : Type 0 where
  pub cause : Cause N
  pub at : Option P

-- a name is used or defined, an index is marked or has an entry, or a test has to hold
pub data Act (N P : Type 0) : Type 0 where
  use_value : Word N P → User → Act N P
  use_label : Word N P → User → Act N P
  define_value : Word N P → Place → Act N P
  define_label : Word N P → Place → Act N P
  -- an item's mark, and an entry for a mark
  mark : ℕ → P → Act N P
  entry : ℕ → P → Act N P
  -- fails with this failure, unless the test holds
  claim : Bool → Failure N P → Act N P

-- acts, one after another, and regions, which have scripts of their own
pub data Script (N P : Type 0) : Type 0 where
  done : Script N P
  does : Act N P → Script N P → Script N P
  -- a region: whether its operation is isolated, the place of its brace, the script inside it, and the rest
  within : Bool → P → Script N P → Script N P → Script N P

-- the acts, and then the rest
abbrev pub does_all : {N P : Type 0} → List (Act N P) → Script N P → Script N P
does_all [] k = k
does_all (a ∷ rest) k = does a (does_all rest k)

-- a script with each name and each place mapped
module _ {N P M Q : Type 0} (f : N → M) (h : P → Q) where
  -- the name and its place, mapped
  abbrev pub word_as : Word N P → Word M Q
  word_as w = record { name = f w.name; at = h w.at }

  -- the cause, with its name mapped
  abbrev pub cause_as : Cause N → Cause M
  cause_as (ResultCount types names) = ResultCount types names
  cause_as (NoActiveScope n) = NoActiveScope (f n)
  cause_as (UnresolvedReference n) = UnresolvedReference (f n)
  cause_as (MultipleDefinitions n) = MultipleDefinitions (f n)
  cause_as NotIsolated = NotIsolated
  cause_as (DuplicateIndex i) = DuplicateIndex i
  cause_as (UnknownIndex i) = UnknownIndex i
  cause_as (UnknownPrintOnce i) = UnknownPrintOnce i
  cause_as (ReservedKey k) = ReservedKey k

  -- the failure, mapped
  abbrev pub failure_as : Failure N P → Failure M Q
  failure_as x = record { cause = cause_as x.cause; at = option_map h x.at }

  -- the act, mapped
  abbrev pub act_as : Act N P → Act M Q
  act_as (use_value w u) = use_value (word_as w) u
  act_as (use_label w u) = use_label (word_as w) u
  act_as (define_value w p) = define_value (word_as w) p
  act_as (define_label w p) = define_label (word_as w) p
  act_as (mark i p) = mark i (h p)
  act_as (entry i p) = entry i (h p)
  act_as (claim b x) = claim b (failure_as x)

  -- the script, with each name and each place mapped
  abbrev pub script_as : Script N P → Script M Q
  script_as done = done
  script_as (does a k) = does (act_as a) (script_as k)
  script_as (within iso p body k) = within iso (h p) (script_as body) (script_as k)

-- the acts of one script, and then those of the other
abbrev pub follow : {N P : Type 0} → Script N P → Script N P → Script N P
follow done y = y
follow (does a k) y = does a (follow k y)
follow (within iso p body k) y = within iso p body (follow k y)
