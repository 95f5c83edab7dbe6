use Rattle.std.proofs.Common.{[], ap, sym}
use Rattle.std.specs.Str.{chars}
use Rattle.irtext_stream.specs.NotationPieces.{means}
use Rattle.irtext_llvm.specs.Operations.{llvm_op}
use Rattle.irtext_llvm.proofs.operations.notation.Goals as goal

pub returns-in-Module : goal.returns-in-Module
unfolding chars
returns-in-Module c = ap (λ op. means (llvm_op op).format []) (sym c.in-Module.is)

pub returns-in-Typedef : goal.returns-in-Typedef
unfolding chars
returns-in-Typedef c = ap (λ op. means (llvm_op op).format []) (sym c.in-Typedef.is)

pub returns-in-Global : goal.returns-in-Global
unfolding chars
returns-in-Global c = ap (λ op. means (llvm_op op).format []) (sym c.in-Global.is)

pub returns-in-Initialized : goal.returns-in-Initialized
unfolding chars
returns-in-Initialized c = ap (λ op. means (llvm_op op).format []) (sym c.in-Initialized.is)

pub returns-in-Alias : goal.returns-in-Alias
unfolding chars
returns-in-Alias c = ap (λ op. means (llvm_op op).format []) (sym c.in-Alias.is)

pub returns-in-Declare : goal.returns-in-Declare
unfolding chars
returns-in-Declare c = ap (λ op. means (llvm_op op).format []) (sym c.in-Declare.is)

pub returns-in-Func : goal.returns-in-Func
unfolding chars
returns-in-Func c = ap (λ op. means (llvm_op op).format []) (sym c.in-Func.is)

pub returns-in-Return : goal.returns-in-Return
unfolding chars
returns-in-Return c = ap (λ op. means (llvm_op op).format []) (sym c.in-Return.is)

pub returns-in-Unreachable : goal.returns-in-Unreachable
unfolding chars
returns-in-Unreachable c = ap (λ op. means (llvm_op op).format []) (sym c.in-Unreachable.is)

pub returns-in-Br : goal.returns-in-Br
unfolding chars
returns-in-Br c = ap (λ op. means (llvm_op op).format []) (sym c.in-Br.is)

pub returns-in-CondBr : goal.returns-in-CondBr
unfolding chars
returns-in-CondBr c = ap (λ op. means (llvm_op op).format []) (sym c.in-CondBr.is)

pub returns-in-Switch : goal.returns-in-Switch
unfolding chars
returns-in-Switch c = ap (λ op. means (llvm_op op).format []) (sym c.in-Switch.is)

pub returns-in-Indirectbr : goal.returns-in-Indirectbr
unfolding chars
returns-in-Indirectbr c = ap (λ op. means (llvm_op op).format []) (sym c.in-Indirectbr.is)

pub returns-in-Invoke : goal.returns-in-Invoke
unfolding chars
returns-in-Invoke c = ap (λ op. means (llvm_op op).format []) (sym c.in-Invoke.is)

pub returns-in-InvokeVoid : goal.returns-in-InvokeVoid
unfolding chars
returns-in-InvokeVoid c = ap (λ op. means (llvm_op op).format []) (sym c.in-InvokeVoid.is)

pub returns-in-Resume : goal.returns-in-Resume
unfolding chars
returns-in-Resume c = ap (λ op. means (llvm_op op).format []) (sym c.in-Resume.is)

pub returns-in-Call : goal.returns-in-Call
unfolding chars
returns-in-Call c = ap (λ op. means (llvm_op op).format []) (sym c.in-Call.is)

pub returns-in-CallVoid : goal.returns-in-CallVoid
unfolding chars
returns-in-CallVoid c = ap (λ op. means (llvm_op op).format []) (sym c.in-CallVoid.is)

pub returns-in-Constant : goal.returns-in-Constant
unfolding chars
returns-in-Constant c = ap (λ op. means (llvm_op op).format []) (sym c.in-Constant.is)

pub returns-in-Aggregate : goal.returns-in-Aggregate
unfolding chars
returns-in-Aggregate c = ap (λ op. means (llvm_op op).format []) (sym c.in-Aggregate.is)

pub returns-in-AddressOf : goal.returns-in-AddressOf
unfolding chars
returns-in-AddressOf c = ap (λ op. means (llvm_op op).format []) (sym c.in-AddressOf.is)

pub returns-in-Undef : goal.returns-in-Undef
unfolding chars
returns-in-Undef c = ap (λ op. means (llvm_op op).format []) (sym c.in-Undef.is)

pub returns-in-Poison : goal.returns-in-Poison
unfolding chars
returns-in-Poison c = ap (λ op. means (llvm_op op).format []) (sym c.in-Poison.is)

pub returns-in-Zero : goal.returns-in-Zero
unfolding chars
returns-in-Zero c = ap (λ op. means (llvm_op op).format []) (sym c.in-Zero.is)

pub returns-in-Add : goal.returns-in-Add
unfolding chars
returns-in-Add c = ap (λ op. means (llvm_op op).format []) (sym c.in-Add.is)

pub returns-in-Sub : goal.returns-in-Sub
unfolding chars
returns-in-Sub c = ap (λ op. means (llvm_op op).format []) (sym c.in-Sub.is)

pub returns-in-Mul : goal.returns-in-Mul
unfolding chars
returns-in-Mul c = ap (λ op. means (llvm_op op).format []) (sym c.in-Mul.is)

pub returns-in-Shl : goal.returns-in-Shl
unfolding chars
returns-in-Shl c = ap (λ op. means (llvm_op op).format []) (sym c.in-Shl.is)

pub returns-in-Udiv : goal.returns-in-Udiv
unfolding chars
returns-in-Udiv c = ap (λ op. means (llvm_op op).format []) (sym c.in-Udiv.is)

pub returns-in-Sdiv : goal.returns-in-Sdiv
unfolding chars
returns-in-Sdiv c = ap (λ op. means (llvm_op op).format []) (sym c.in-Sdiv.is)

pub returns-in-Urem : goal.returns-in-Urem
unfolding chars
returns-in-Urem c = ap (λ op. means (llvm_op op).format []) (sym c.in-Urem.is)

pub returns-in-Srem : goal.returns-in-Srem
unfolding chars
returns-in-Srem c = ap (λ op. means (llvm_op op).format []) (sym c.in-Srem.is)

pub returns-in-Lshr : goal.returns-in-Lshr
unfolding chars
returns-in-Lshr c = ap (λ op. means (llvm_op op).format []) (sym c.in-Lshr.is)

pub returns-in-Ashr : goal.returns-in-Ashr
unfolding chars
returns-in-Ashr c = ap (λ op. means (llvm_op op).format []) (sym c.in-Ashr.is)

pub returns-in-And : goal.returns-in-And
unfolding chars
returns-in-And c = ap (λ op. means (llvm_op op).format []) (sym c.in-And.is)

pub returns-in-Or : goal.returns-in-Or
unfolding chars
returns-in-Or c = ap (λ op. means (llvm_op op).format []) (sym c.in-Or.is)

pub returns-in-Xor : goal.returns-in-Xor
unfolding chars
returns-in-Xor c = ap (λ op. means (llvm_op op).format []) (sym c.in-Xor.is)

pub returns-in-Fneg : goal.returns-in-Fneg
unfolding chars
returns-in-Fneg c = ap (λ op. means (llvm_op op).format []) (sym c.in-Fneg.is)

pub returns-in-Fadd : goal.returns-in-Fadd
unfolding chars
returns-in-Fadd c = ap (λ op. means (llvm_op op).format []) (sym c.in-Fadd.is)

pub returns-in-Fsub : goal.returns-in-Fsub
unfolding chars
returns-in-Fsub c = ap (λ op. means (llvm_op op).format []) (sym c.in-Fsub.is)

pub returns-in-Fmul : goal.returns-in-Fmul
unfolding chars
returns-in-Fmul c = ap (λ op. means (llvm_op op).format []) (sym c.in-Fmul.is)

pub returns-in-Fdiv : goal.returns-in-Fdiv
unfolding chars
returns-in-Fdiv c = ap (λ op. means (llvm_op op).format []) (sym c.in-Fdiv.is)

pub returns-in-Frem : goal.returns-in-Frem
unfolding chars
returns-in-Frem c = ap (λ op. means (llvm_op op).format []) (sym c.in-Frem.is)

pub returns-in-Icmp : goal.returns-in-Icmp
unfolding chars
returns-in-Icmp c = ap (λ op. means (llvm_op op).format []) (sym c.in-Icmp.is)

pub returns-in-Fcmp : goal.returns-in-Fcmp
unfolding chars
returns-in-Fcmp c = ap (λ op. means (llvm_op op).format []) (sym c.in-Fcmp.is)

pub returns-in-Select : goal.returns-in-Select
unfolding chars
returns-in-Select c = ap (λ op. means (llvm_op op).format []) (sym c.in-Select.is)

pub returns-in-Freeze : goal.returns-in-Freeze
unfolding chars
returns-in-Freeze c = ap (λ op. means (llvm_op op).format []) (sym c.in-Freeze.is)

pub returns-in-Trunc : goal.returns-in-Trunc
unfolding chars
returns-in-Trunc c = ap (λ op. means (llvm_op op).format []) (sym c.in-Trunc.is)

pub returns-in-Zext : goal.returns-in-Zext
unfolding chars
returns-in-Zext c = ap (λ op. means (llvm_op op).format []) (sym c.in-Zext.is)

pub returns-in-Sext : goal.returns-in-Sext
unfolding chars
returns-in-Sext c = ap (λ op. means (llvm_op op).format []) (sym c.in-Sext.is)

pub returns-in-Fptrunc : goal.returns-in-Fptrunc
unfolding chars
returns-in-Fptrunc c = ap (λ op. means (llvm_op op).format []) (sym c.in-Fptrunc.is)

pub returns-in-Fpext : goal.returns-in-Fpext
unfolding chars
returns-in-Fpext c = ap (λ op. means (llvm_op op).format []) (sym c.in-Fpext.is)

pub returns-in-Fptoui : goal.returns-in-Fptoui
unfolding chars
returns-in-Fptoui c = ap (λ op. means (llvm_op op).format []) (sym c.in-Fptoui.is)

pub returns-in-Fptosi : goal.returns-in-Fptosi
unfolding chars
returns-in-Fptosi c = ap (λ op. means (llvm_op op).format []) (sym c.in-Fptosi.is)

pub returns-in-Uitofp : goal.returns-in-Uitofp
unfolding chars
returns-in-Uitofp c = ap (λ op. means (llvm_op op).format []) (sym c.in-Uitofp.is)

pub returns-in-Sitofp : goal.returns-in-Sitofp
unfolding chars
returns-in-Sitofp c = ap (λ op. means (llvm_op op).format []) (sym c.in-Sitofp.is)

pub returns-in-Ptrtoint : goal.returns-in-Ptrtoint
unfolding chars
returns-in-Ptrtoint c = ap (λ op. means (llvm_op op).format []) (sym c.in-Ptrtoint.is)

pub returns-in-Inttoptr : goal.returns-in-Inttoptr
unfolding chars
returns-in-Inttoptr c = ap (λ op. means (llvm_op op).format []) (sym c.in-Inttoptr.is)

pub returns-in-Bitcast : goal.returns-in-Bitcast
unfolding chars
returns-in-Bitcast c = ap (λ op. means (llvm_op op).format []) (sym c.in-Bitcast.is)

pub returns-in-Addrspacecast : goal.returns-in-Addrspacecast
unfolding chars
returns-in-Addrspacecast c = ap (λ op. means (llvm_op op).format []) (sym c.in-Addrspacecast.is)

pub returns-in-Alloca : goal.returns-in-Alloca
unfolding chars
returns-in-Alloca c = ap (λ op. means (llvm_op op).format []) (sym c.in-Alloca.is)

pub returns-in-Load : goal.returns-in-Load
unfolding chars
returns-in-Load c = ap (λ op. means (llvm_op op).format []) (sym c.in-Load.is)

pub returns-in-Store : goal.returns-in-Store
unfolding chars
returns-in-Store c = ap (λ op. means (llvm_op op).format []) (sym c.in-Store.is)

pub returns-in-Getelementptr : goal.returns-in-Getelementptr
unfolding chars
returns-in-Getelementptr c = ap (λ op. means (llvm_op op).format []) (sym c.in-Getelementptr.is)

pub returns-in-AtomicLoad : goal.returns-in-AtomicLoad
unfolding chars
returns-in-AtomicLoad c = ap (λ op. means (llvm_op op).format []) (sym c.in-AtomicLoad.is)

pub returns-in-AtomicStore : goal.returns-in-AtomicStore
unfolding chars
returns-in-AtomicStore c = ap (λ op. means (llvm_op op).format []) (sym c.in-AtomicStore.is)

pub returns-in-Atomicrmw : goal.returns-in-Atomicrmw
unfolding chars
returns-in-Atomicrmw c = ap (λ op. means (llvm_op op).format []) (sym c.in-Atomicrmw.is)

pub returns-in-Cmpxchg : goal.returns-in-Cmpxchg
unfolding chars
returns-in-Cmpxchg c = ap (λ op. means (llvm_op op).format []) (sym c.in-Cmpxchg.is)

pub returns-in-Fence : goal.returns-in-Fence
unfolding chars
returns-in-Fence c = ap (λ op. means (llvm_op op).format []) (sym c.in-Fence.is)

pub returns-in-VaArg : goal.returns-in-VaArg
unfolding chars
returns-in-VaArg c = ap (λ op. means (llvm_op op).format []) (sym c.in-VaArg.is)

pub returns-in-Extractvalue : goal.returns-in-Extractvalue
unfolding chars
returns-in-Extractvalue c = ap (λ op. means (llvm_op op).format []) (sym c.in-Extractvalue.is)

pub returns-in-Insertvalue : goal.returns-in-Insertvalue
unfolding chars
returns-in-Insertvalue c = ap (λ op. means (llvm_op op).format []) (sym c.in-Insertvalue.is)

pub returns-in-Extractelement : goal.returns-in-Extractelement
unfolding chars
returns-in-Extractelement c = ap (λ op. means (llvm_op op).format []) (sym c.in-Extractelement.is)

pub returns-in-Insertelement : goal.returns-in-Insertelement
unfolding chars
returns-in-Insertelement c = ap (λ op. means (llvm_op op).format []) (sym c.in-Insertelement.is)

pub returns-in-Shufflevector : goal.returns-in-Shufflevector
unfolding chars
returns-in-Shufflevector c = ap (λ op. means (llvm_op op).format []) (sym c.in-Shufflevector.is)

pub returns-in-Landingpad : goal.returns-in-Landingpad
unfolding chars
returns-in-Landingpad c = ap (λ op. means (llvm_op op).format []) (sym c.in-Landingpad.is)
