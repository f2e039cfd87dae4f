-- What is told with a word in a room: what its poster had seen there.
use Rattle.std.specs.Prelude.{◌≡◌, ℕ, Bool, List, Option}
use mathlib.Core.List.{IsPrefix}
use Rattle.jr_model.specs.History.{History}
use Rattle.jr_rule.specs.Rooms.{seen_by_pinned}
use Rattle.jr_rule.specs.declared.site.Site.{Ghosts}
use Rattle.jr_rule.specs.declared.site.PinnedNoteOf.{PinnedNoteOf}
use Rattle.jr_scripts.specs.declared.sighting.Sighting.{Sighting}
use Rattle.jr_scripts.specs.Posting.{Account, Speech, speaks}
use Rattle.jr_scripts.specs.NotedWords.{account_noted}

module _ {Q : Type 0} {G : Ghosts Q} where
  -- it says that its poster had seen this
  abbrev pub has_seen : PinnedNoteOf Q G → History → Type 0
  has_seen t seen = seen_by_pinned t.pinned ≡ seen

  -- whoever has seen this has seen all that its poster had
  abbrev pub have_seen : PinnedNoteOf Q G → History → Type 0
  have_seen t seen = IsPrefix (seen_by_pinned t.pinned) seen

  -- what a thread's notes of a room's board tell
  abbrev pub account_told : Bool → List (List ℕ × ℕ) → List (Option (Sighting (PinnedNoteOf Q G))) → Account
  account_told = account_noted (λ room. room ≡ G.room) has_seen have_seen

  -- what a thread said and heard by them
  abbrev pub talk_told : Bool → List (List ℕ × ℕ) → List (Option (Sighting (PinnedNoteOf Q G))) → Speech
  talk_told lost numbers notes =
      speaks (account_told lost numbers notes).posted (account_told lost numbers notes).heard (λ n. Unit {0})
