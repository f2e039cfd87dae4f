-- A thread and its frames, between the steps of a call and between calls.
use Rattle.std.specs.Prelude.{◌≡◌, false, length}
use Rattle.jr_model.specs.declared.event.Role.{Role}
use Rattle.jr_steps.specs.Knowing.{Facts, MayKnow, Holds}
use Rattle.jr_frames.specs.Table.{Table}

-- frames of the same thread, with as many places
pub record KeepsOwner (old new : Table) : Type 0 where
  pub thread : new.thread ≡ old.thread
  pub last : new.last ≡ old.last
  pub places : length new.frames.given ≡ length old.frames.given

module _ {S : Type 0} (facts : S → Facts) where
  -- THE FRAMES ARE THE THREAD'S OWN: they have as many places as the room gives
  -- a thread, and its last serial, and they may agree with the thread's locals
  pub record AreOwn (s : S) (t : Table) : Type 0 where
    pub owner : t.thread ≡ (facts s).stands.thread
    pub last : t.last ≡ (facts s).stands.last
    pub places : length t.frames.given ≡ (facts s).stands.config.locals
    pub agrees : MayKnow facts s (Holds t.frames)

  -- the thread has this role, its pass is not fresh, and the frames are its own
  pub record StandsReady (role : Role) (s : S) (t : Table) : Type 0 where
    pub role_is : (facts s).stands.role ≡ role
    pub spent : (facts s).stands.fresh ≡ false
    pub own : AreOwn s t
