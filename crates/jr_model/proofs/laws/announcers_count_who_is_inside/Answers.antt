use Rattle.jr_model.proofs.Announcements.{announcer_counts}
use Rattle.jr_model.proofs.laws.announcers_count_who_is_inside.Goals as goal

pub returns : goal.returns
returns c = announcer_counts
