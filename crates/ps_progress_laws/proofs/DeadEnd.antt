-- A run never comes to where nobody can go on.
use Rattle.std.proofs.Common.{◌||◌, is_some, List}
use Rattle.std.proofs.lemmas.Bool.{or_parts}
use Rattle.ps_machine.specs.declared.inputs.Input.{Input}
use Rattle.ps_machine.specs.declared.journal.Entry.{Entry}
use Rattle.ps_rules.specs.History.{IsHistory}
use Rattle.ps_rules.specs.Choices.{ticked, wants_plan}
use Rattle.ps_rules.specs.Sound.{IsSound}
use Rattle.ps_rules.proofs.Going.{active_acts_may_go_on}
use Rattle.ps_progress_laws.specs.DeadEnd.{any_observes, any_performs, NoDeadEnd}
use Rattle.ps_progress_laws.proofs.Acting.{finished, held_served, standing}
use Rattle.ps_progress_laws.proofs.Engaged.{confirmed_held, engaged_held, engaged_member, held_offering, held_once}
use Rattle.ps_progress_laws.proofs.Offers.{numbered}
use Rattle.ps_progress_laws.proofs.Passes.{answered, served, takes_part}
use Rattle.ps_progress_laws.proofs.Picking.{by_test}
use Rattle.ps_progress_laws.proofs.Quiet.{dead, Keeps}
use Rattle.ps_progress_laws.proofs.Requests.{asked, last_one, of_run, offered}
use Rattle.ps_progress_laws.proofs.Units.{has_unit}
use Rattle.ps_progress_laws.proofs.Working.{begun_works}

-- histories keep all of it
kept : (i : Input) (es : List Entry) → IsSound i → IsHistory i es → Keeps i es
kept i es sound h = record {
  numbered = numbered i es h;
  of_run = of_run i es h;
  asked = asked i es h;
  last_one = last_one i es h;
  served = served i es h;
  offered = offered i es h;
  answered = answered i es h;
  member = λ p e. takes_part i p (engaged_member i es h p e);
  engaged = engaged_held i es h;
  held = λ r p o. let w = held_offering i es h r p o in (w.0, w.1, w.2, held_served i es h r p o);
  standing = standing i es h;
  confirmed_stays = λ r p c t. (held_once i es h r p (confirmed_held i es h r p c t)).0;
  begun = begun_works i es h;
  has_unit = has_unit i sound es h;
  finished = λ r act p a s c t. finished i es h r act p a s t;
  going = active_acts_may_go_on i es h;
}

pub no_dead_end : NoDeadEnd
no_dead_end i es sound h running =
    by_test (is_some (ticked i es) || (wants_plan i es || (any_performs i es || any_observes i es))) (λ t. t)
    (λ t.
    let one = or_parts (is_some (ticked i es)) (wants_plan i es || (any_performs i es || any_observes i es)) t in
    let two = or_parts (wants_plan i es) (any_performs i es || any_observes i es) one.1 in
    absurd (dead i es (kept i es sound h) sound running one.0 two.0 two.1))
