-- Threads may have what the pointer owns: nothing, or what is kept with the right to free its memory.
use Rattle.std.proofs.Common.{Option, None, Some}
use mir.Raw.{raw}
use base.Shift.{Keyless}
use denote.Memory.{lone}
use denote.Param.Send.{IsSend, AllSend, owning_send, struct_send, sendable}
use denote.RawPtr.{Ptr}
use denote.Struct.Owning.{shape, fields, to}
use denote.Struct.Struct.{exits_of}
use Rattle.std.proofs.Crossing.{frees}
use Rattle.std_alloc.proofs.SendSync.{quiet, lies}
use Rattle.std_heap.proofs.Global.TheSendSync as handle
use Rattle.std_heap.specs.declared.Global.{Global}
use Rattle.std_heap.specs.contracts.GlobalAllocator.TheImpl.{ghosts}
use Rattle.affedit_c.specs.Holding.{may_own}
use Rattle.affedit_c.specs.contracts.kept.KeptDictionary.{the_row as R}
use Rattle.affedit_c.proofs.kept.KeptDictionary.TheSendSync.{the_send as kept}
use Rattle.affedit_c.specs.contracts.held.Held.{the_row, the_type}

owned : (heap : Global) (at : Ptr) (value : Option R.Denot)
    → Keyless (may_own (ghosts.dealloc_token heap) R at value)
owned heap at None = tt
owned heap at (Some value) = (lies R kept at value, frees.frees heap (raw (lone R.mir)) at)

pub send : IsSend the_row
send =
    let all : AllSend (fields the_type) = (search sendable, (handle.the_field_send, tt)) in
    owning_send the_type all (λ held. owned held.alloc held.at held.value)
    (λ k. quiet (to the_type) (exits_of k (fields the_type)) ((struct_send (shape the_type) all).leaving k))
