use denote.Param.Send.{IsSend}
use Rattle.luthrady.proofs.Pointers.{sent}
use Rattle.luthrady.proofs.held.EnvPlace.TheSendSync.{the_send}
use Rattle.luthrady.specs.contracts.handles.EnvHandle.{the_row, the_type}
use Rattle.luthrady.specs.contracts.held.EnvPlace.{the_row as I}

pub send : IsSend the_row
send = sent the_type I (λ h. h.at) (λ h. h.alloc) (λ h. h.value) the_send
