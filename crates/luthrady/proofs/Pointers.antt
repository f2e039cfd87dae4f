-- A handle, over any value: a pointer and an allocator, which owns the value behind the pointer. It goes to other
-- threads, where that value may.
use Rattle.std.proofs.Common.{◌≡◌, ℕ, List, [], ◌∷◌, false, true≢false, refl}
use Rattle.luthrady.specs.Places.{is_null}
use base.Fraction.{full_share}
use base.Fml.{Fml}
use base.Shift.{Keyless}
use denote.Exit.{Exit, unchanged, leaves, hidden, under}
use denote.Memory.{lone}
use denote.Param.Send.{IsSend, AllSend, Quiet, owning_send, part_keyless, struct_send, sendable}
use denote.RattleType.{RattleType}
use denote.RawPtr.{Ptr, block_ptr, null_ptr, lies_at}
use denote.Struct.Field.{Field, RawPtr-field, rows}
use denote.Struct.Owning.{Owning, row, shape, fields, to}
use denote.Struct.Struct.{exits_of}
use denote.Struct.Values.{intos}
use mir.Raw.{raw}
use mir.Val.{Val, vstruct, vcons, vnil}
use seplogic.Ra.Ura.{Ura}
use types.Kit.{Item, Goal, Seq, ‵}
use types.Logic.{Logic}
use Rattle.std.proofs.Crossing as heap
use Rattle.std.specs.Box.Ownership.{box_owns}
use Rattle.std.specs.Ptr.{if_non_null}
use Rattle.std.specs.contracts.alloc.Global.{the_field}
use Rattle.std.specs.contracts.impls.GlobalAllocator.TheImpl.{ghosts}
use Rattle.std.specs.declared.alloc.Global.{Global}

-- what lies behind a pointer names no thread
pub lies : (R : RattleType) → IsSend R → (p : Ptr) (x : R.Denot) → Keyless (lies_at R full_share p x)
lies R s (block_ptr b o) x = part_keyless R s full_share x b o
lies R s null_ptr x = tt

-- nor what is owned unless a pointer is NULL
pub if_there : (p : Ptr) (F : Fml) → Keyless F → Keyless (if_non_null p F)
if_there (block_ptr b o) F k = k
if_there null_ptr F k = tt

-- nor does what a value leaves
pub quiet : {D X : Type 0} (to : D → X) (e : Exit X) → Quiet e → Quiet (hidden (under to e))
quiet to unchanged q = λ x w. tt
quiet to (leaves L l S s r₀) q = λ d. q (to d)

-- T is the struct of the handle, and I what stands behind its pointer
module _ (T : Owning) (I : RattleType) (at : T.D → Ptr) (alloc : T.D → Global) (value : T.D → I.Denot) where
  abbrev data_fields : List Field
  data_fields = RawPtr-field ∷ the_field ∷ []

  abbrev pub Handle : Owning
  Handle = record {
    name = T.name;
    args = [];
    types = [];
    parts = data_fields;
    D = T.D;
    as_values = λ h. (at h, (alloc h, tt));
    coded = T.coded;
    heap = λ h. if_non_null (at h) (box_owns (ghosts.dealloc_token (alloc h)) I (at h) (value h));
    exit = λ k. hidden (under (λ h. intos data_fields (at h, (alloc h, tt))) (exits_of k (rows data_fields)));
    shr_at = T.shr_at;
  }

  pub sent : IsSend I → IsSend (row Handle)
  sent inner =
      let all : AllSend (fields Handle) = (search sendable, (search sendable depth 20, tt)) in
      owning_send Handle all
      (λ h. if_there (at h) (box_owns (ghosts.dealloc_token (alloc h)) I (at h) (value h))
      (lies I inner (at h) (value h), heap.frees.frees (alloc h) (raw (lone I.mir)) (at h)))
      (λ k. quiet (to Handle) (exits_of k (fields Handle)) ((struct_send (shape Handle) all).leaving k))

-- a proof's step: of what is owned unless a pointer is NULL, to a block and a count, where it is not
module _ {M : Type 1} {𝓤 : Ura M} {𝓛 : Logic 𝓤} {K : Type 0} {Γ : List (Item 𝓤)} {G : Goal 𝓤 𝓛.H} where
  pub at_a_block : K → (p : Ptr) (F : Ptr → Fml) → is_null p ≡ false
      → ((b o : ℕ) → p ≡ block_ptr b o → Seq K 𝓛 (‵ (F (block_ptr b o)) ∷ Γ) G) → Seq K 𝓛 (‵ (F p) ∷ Γ) G
  at_a_block t (block_ptr b o) F there k = k b o refl
  at_a_block t null_ptr F there k = absurd (true≢false there)

-- a struct of two values
abbrev pub both : Val → Val → Val
both v w = vstruct (vcons v (vcons w vnil))
