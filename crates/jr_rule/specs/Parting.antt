-- For the crate's own functions: passes that looked at the gate together part again.
use Rattle.std.specs.Prelude.{◌≡◌, ◌+◌, ◌≤◌, ℕ, List, [], map, vec_len, vec_capacity}
use Rattle.std.specs.List.{All}
use Rattle.atomic_table.specs.declared.shared.Seat.{Seat}
use Rattle.jr_rule.specs.declared.pass.Pass.{Pass}
use Rattle.jr_rule.specs.declared.row.Parted.{Parted}
use Rattle.jr_rule.specs.declared.rule.View.{View}
use Rattle.jr_rule.specs.Passes.{gathered, joints_of, known_of, stands_of}
use Rattle.jr_rule.specs.Rule.{crowd_of, first_alone, view_of, HasCounted, SeatState}

-- a seat of nobody
abbrev pub no_seat : SeatState
no_seat = (view_of [], [])

-- the first pass looked, with somebody inside, and sits alone again;
-- those at the rest are as they were, without a count, and the others stand as they did, each with its one parting
pub record HaveParted (first rest : Seat (Unit {0}) View) (others : List Pass) (len capacity : ℕ)
    (p : Parted) : Type 0 where
  pub room : p.first.table_id ≡ first.table_id
  pub together : SeatState
  pub counts : HasCounted (crowd_of (gathered others) first.me (map known_of others) rest.me) together p.inside
  pub alone : p.first.me ≡ (first_alone together.0, together.1)
  pub some : 1 ≤ p.inside
  pub same_rest : (p.rest.table_id ≡ rest.table_id) × (p.rest.me ≡ (view_of rest.me.0.passes, []))
  pub same_others : map stands_of p.others.items ≡ map stands_of others
  pub dealt : All (λ q. joints_of q ≡ 1) p.others.items
  pub len_is : vec_len p.others ≡ len
  pub capacity_is : vec_capacity p.others ≡ capacity

-- the same where nobody was at the rest, which was cut off the first for it
pub record IsParted (first : Seat (Unit {0}) View) (others : List Pass) (p : Parted) : Type 0 where
  pub room : p.first.table_id ≡ first.table_id
  pub together : SeatState
  pub counts : HasCounted (crowd_of (gathered others + 1) first.me (map known_of others) no_seat) together p.inside
  pub alone : p.first.me ≡ (first_alone together.0, together.1)
  pub some : 1 ≤ p.inside
  pub same_others : map stands_of p.others.items ≡ map stands_of others
  pub dealt : All (λ q. joints_of q ≡ 1) p.others.items
