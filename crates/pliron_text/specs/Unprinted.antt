-- For callers: the text of an operation in the layout of `disp`, or why it has none.
use Rattle.std.specs.Prelude.{◌≡◌, ◌⊎◌, ◌++◌, ℕ, Bool, List, Some, codes, string_bytes}
use Rattle.std.specs.Str.{encode_utf8_all}
use Rattle.irtext_base.specs.Causes.{id_text}
use Rattle.irtext_base.specs.Locations.{location_view, out_of_memory}
use Rattle.irtext_base.specs.declared.location.Location.{Unknown}
use Rattle.irtext_base.specs.declared.result.Cause as cause
use Rattle.irtext_base.specs.declared.result.Error.{Error}
use Rattle.irtext_base.specs.declared.result.ErrorKind.TheVariants.{InvalidArgument}
use Rattle.irtext_base.specs.declared.result.StringError.{StringError}
use Rattle.irtext_base.specs.declared.text.AttrText as attr_text
use Rattle.irtext_base.specs.declared.text.IrText as ir_text
use Rattle.irtext_context.specs.Context.{ContextView, OperationView, operation}
use Rattle.irtext_graph.specs.declared.arena.Ptr.{Ptr}
use Rattle.irtext_graph.specs.declared.object.Operation.{Operation}
use Rattle.irtext_print.specs.Printers.Appended.{fresh}
use Rattle.irtext_print.specs.Printers.Shown.{Shown}
use Rattle.irtext_print.specs.declared.printable.state.RegionPrintDepthLimit.TheVariants.{Unlimited}
use Rattle.irtext_print_ir.specs.Printers.Printed.{root_text}
use Rattle.irtext_print_ops.specs.Fits.{fault_text}
use Rattle.irtext_print_ops.specs.Heads as heads
use Rattle.pliron_text.specs.Calls.{IsPrinted}
use Rattle.pliron_text.specs.Misfits.{AllFit, IsFirstMisfit}
use Rattle.pliron_text.specs.declared.ir.printing.Misfit as misfits
use Rattle.pliron_text.specs.declared.ir.printing.PrintError.{PrintError}
use Rattle.pliron_text.specs.declared.ir.printing.PrintError.TheVariants as because

-- the layout of `disp`: two spaces for each indentation step, and all regions
abbrev pub plain : Shown (Unit {0})
plain = fresh 2 0 Unlimited

module _ {A : Type 0} where
  -- the text of a misfit: it names the operation's id and the reason
  abbrev pub misfit_text : misfits.Misfit A → List ℕ
  misfit_text misfit = codes "Operation " ++ (id_text misfit.id.now ++ (codes " does not fit its format: " ++ fault_text misfit.fault))

  -- an error is that of a misfit: its text, at its location; or out of memory
  pub record SaysMisfit (misfit : misfits.Misfit A) (error : Error A) : Type 0 where
    pub kind : error.kind ≡ InvalidArgument
    pub message : StringError
    pub cause : error.err ≡ cause.Text message
    pub says : string_bytes message.0 ≡ misfit_text misfit
    pub location : location_view error.loc ≡ location_view misfit.loc.now

  -- the error of the library for a misfit
  abbrev pub IsErrorOfMisfit : misfits.Misfit A → Error A → Type 0
  IsErrorOfMisfit misfit error = (error ≡ out_of_memory) ⊎ SaysMisfit misfit error

  -- the error of the library that says why an operation was not printed
  abbrev pub IsErrorOf : PrintError A → Error A → Type 0
  IsErrorOf (because.Memory e) error = error ≡ out_of_memory
  IsErrorOf because.TooDeep error = error ≡ record { kind = InvalidArgument; err = cause.Fmt; loc = Unknown }
  IsErrorOf (because.Misfit misfit) error = IsErrorOfMisfit misfit error

module _ {T A : Type 0} (types : ir_text.Ghosts T A) (owns : ir_text.Ghosts A A) (attributes : attr_text.Ghosts A A) (same : A → A → Bool) (ctx : ContextView T A) (p : Ptr Operation) where
  -- The bytes are the text that `disp` shows of the operation. If it is in no block, they are the defined text of its graph; and every
  -- operation in it fits its format.
  pub record IsShown (bytes : List ℕ) : Type 0 where
    pub shown : bytes ≡ encode_utf8_all (root_text types owns attributes same ctx p plain)
    pub printed : IsPrinted types owns attributes same ctx p plain bytes

  -- a misfit is the first operation that does not fit its format, with its id, its location and the first reason
  pub record IsMisfitIn (misfit : misfits.Misfit A) : Type 0 where
    pub first : IsFirstMisfit owns.written attributes same ctx p misfit.op misfit.fault
    pub seen : OperationView T A
    pub is : operation ctx misfit.op ≡ Some seen
    pub id : misfit.id.now ≡ seen.id
    pub location : misfit.loc.now ≡ seen.loc

  -- Why an operation was not printed: an operation in it does not fit its format, and this is the first one. Or all of them fit, and an
  -- indentation is too deep, or memory ran out.
  abbrev pub IsUnprinted : PrintError A → Type 0
  IsUnprinted (because.Memory e) = AllFit owns.written attributes same ctx p
  IsUnprinted because.TooDeep = AllFit owns.written attributes same ctx p × heads.IsTooDeepUnder types owns attributes same ctx p plain
  IsUnprinted (because.Misfit misfit) = IsMisfitIn misfit
