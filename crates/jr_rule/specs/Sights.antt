-- The two kinds of words: those of a room, with a seat at them, and plain ones, which one thread has.
use Rattle.std.specs.Prelude.{◌≡◌, ◌<◌, ℕ, Bool, true, Some, None, List, []}
use Rattle.atomic_table.specs.Seated.{TableId}
use Rattle.jr_word.specs.declared.config.Config.{Config}
use Rattle.jr_model.specs.declared.event.Role.{Role}
use Rattle.jr_model.specs.declared.event.Role.TheVariants.{Outside}
use Rattle.jr_model.specs.History.{IsLegal}
use Rattle.jr_steps.specs.declared.known.Known.{Known}
use Rattle.jr_steps.specs.declared.known.Holdings.{Holdings}
use Rattle.jr_steps.specs.Holdings.{InSpace, empty, hold}
use Rattle.jr_steps.specs.Knowing.{DidAll, state_of}
use Rattle.jr_rule.specs.Cells.{Sight}
use Rattle.jr_rule.specs.Image.{IsImage}
use Rattle.jr_rule.specs.Rule.{SeatState, IsAlone, IsSized, stepping_pass}

-- A SEAT knows one history: its own
abbrev pub sight_of_seat : TableId → SeatState → Sight
sight_of_seat id m = record {
  first = record {
    room = Some id;
    config = (stepping_pass m).config;
    last = (stepping_pass m).last;
    thread = (stepping_pass m).thread;
    role = Outside;
    fresh = true;
  };
  knows = λ k. k ≡ stepping_pass m;
}

-- it is one of the row's own, of these sizes and this last serial, and sits alone
pub record IsSeatOf (row : TableId) (c : Config) (serial : ℕ) (id : TableId) (m : SeatState) (thread : ℕ) : Type 0 where
  pub table : id ≡ row
  pub config : (stepping_pass m).config ≡ c
  pub last : (stepping_pass m).last ≡ serial
  pub alone : IsAlone m
  pub thread_is : (stepping_pass m).thread ≡ thread
  pub sized : IsSized (stepping_pass m).config (stepping_pass m).last
  pub below : (stepping_pass m).thread < (stepping_pass m).config.threads
  pub space : InSpace (stepping_pass m).config (stepping_pass m).holdings

-- what is known where nothing has happened yet
abbrev pub unseen : Config → ℕ → Known
unseen config last = record { config = config; last = last; thread = 0; seen = []; holdings = empty; taken = 0 }

-- thread 0 alone holds something
abbrev pub alone : Holdings → ℕ → Holdings
alone g = hold (λ t. empty) 0 g

-- PLAIN WORDS show any legal history of what their one thread did whose image they are
pub record Depicts (words : List ℕ) (k : Known) : Type 0 where
  pub legal : IsLegal k.config k.last k.seen
  pub did_all : DidAll k
  pub image : IsImage k.config k.last words (state_of k) (alone k.holdings)
  pub space : InSpace k.config k.holdings

abbrev pub sight_of_words : Config → ℕ → List ℕ → Sight
sight_of_words c last words = record {
  first = record { room = None; config = c; last = last; thread = 0; role = Outside; fresh = true };
  knows = Depicts words;
}

-- A ROW OF PLAIN WORDS AS IT WAS OPENED:
-- of these sizes, with the thread outside and fresh, which knows that nothing has happened yet
pub record IsOpenedAlone (asked : Config) (last : ℕ) (c : Config) (words : List ℕ) (role : Role) (fresh : Bool)
    (hint : ℕ) : Type 0 where
  pub sizes : c ≡ asked
  pub role_is : role ≡ Outside
  pub fresh_is : fresh ≡ true
  pub hint_is : hint ≡ 0
  pub nothing : Depicts words (unseen asked last)
