-- Requests, the answers to them, and the work on them, as they are read from the entries. A request is known by its number, a
-- performer by its name.
use Rattle.std.specs.Prelude.{ℕ, ◌==◌, Bool, true, false, not, ◌&&◌, Option, Some, None, is_none, List, [], ◌∷◌}
use Rattle.std.specs.Option.{option_map_or}
use Rattle.ps_world.specs.Names.{same_name}
use Rattle.ps_world.specs.declared.names.Name.{Name}
use Rattle.ps_machine.specs.declared.journal.By.TheVariants.{Performer}
use Rattle.ps_machine.specs.declared.journal.PassWhy.{PassWhy}
use Rattle.ps_machine.specs.declared.journal.Event.{Event}
use Rattle.ps_machine.specs.declared.journal.Event.TheVariants as event
use Rattle.ps_machine.specs.declared.journal.Entry.{Entry}
use Rattle.ps_rules.specs.Reading.{latest, has_been, times, all_said, only_if}
use Rattle.ps_rules.specs.Runs.{is_active, is_cancelled, state}

-- ---- requests

-- whether an event is a request
abbrev pub is_request : Event → Bool
is_request (event.Request r act) = true
is_request e = false

-- how many requests there are; they are numbered from 0
abbrev pub requests : List Entry → ℕ
requests es = times is_request es

-- what an event says of whether a request was made in the last run
abbrev pub says_of_run : ℕ → Event → Option Bool
says_of_run r (event.Run for acts) = Some false
says_of_run r (event.Request s act) = only_if (r == s) true
says_of_run r e = None

-- whether a request was made in the last run
abbrev pub is_of_run : ℕ → List Entry → Bool
is_of_run r es = latest (says_of_run r) false es

-- what an event says of the act that a request is for: in a new plan it is for none
abbrev pub says_act : ℕ → Event → Option (Option ℕ)
says_act r (event.Run for acts) = Some None
says_act r (event.Replan acts) = Some None
says_act r (event.Request s act) = only_if (r == s) (Some act)
says_act r e = None

-- the place of the act that a request is for, where it was made for the present plan
abbrev pub act_of : ℕ → List Entry → Option ℕ
act_of r es = latest (says_act r) None es

-- what an event says of the last request for an act of the present plan
abbrev pub says_request : ℕ → Event → Option (Option ℕ)
says_request act (event.Run for acts) = Some None
says_request act (event.Replan acts) = Some None
says_request act (event.Request r a) = only_if (act == a) (Some r)
says_request act e = None

-- the last request for an act of the present plan
abbrev pub request_of : ℕ → List Entry → Option ℕ
request_of act es = latest (says_request act) None es

-- whether a request is for an active act of the present plan
abbrev pub is_for_active : ℕ → List Entry → Bool
is_for_active r es = option_map_or (λ act. is_active (state act es)) (act_of r es) false

-- whether a request is for a cancelled act of the present plan
abbrev pub is_for_cancelled : ℕ → List Entry → Bool
is_for_cancelled r es = option_map_or (λ act. is_cancelled (state act es)) (act_of r es) false

-- ---- answers

-- the performer that an event says offers on a request
abbrev pub says_offer : ℕ → Event → Option Name
says_offer r (event.Offer s p) = only_if (r == s) p
says_offer r e = None

-- the performers that offered on a request, in order
abbrev pub offers : ℕ → List Entry → List Name
offers r es = all_said (says_offer r) es

-- the first of these performers
abbrev pub first_offer : List Name → Option Name
first_offer [] = None
first_offer (p ∷ ps) = Some p

-- whether an event is the offer of this performer on a request
abbrev pub is_offer : ℕ → Name → Event → Bool
is_offer r p (event.Offer s q) = (r == s) && same_name p q
is_offer r p e = false

-- whether this performer offered on a request
abbrev pub has_offered : ℕ → Name → List Entry → Bool
has_offered r p es = has_been (is_offer r p) es

-- what an event says of why this performer passed a request
abbrev pub says_pass : ℕ → Name → Event → Option (Option PassWhy)
says_pass r p (event.Pass s q why) = only_if ((r == s) && same_name p q) (Some why)
says_pass r p e = None

-- why this performer passed a request, if it did
abbrev pub pass_of : ℕ → Name → List Entry → Option PassWhy
pass_of r p es = latest (says_pass r p) None es

-- whether an event is the answer of this performer to a request: an offer or a pass
abbrev pub is_answer : ℕ → Name → Event → Bool
is_answer r p (event.Offer s q) = (r == s) && same_name p q
is_answer r p (event.Pass s q why) = (r == s) && same_name p q
is_answer r p e = false

-- whether this performer answered a request
abbrev pub has_answered : ℕ → Name → List Entry → Bool
has_answered r p es = has_been (is_answer r p) es

-- what an event says of the performer that is confirmed on a request
abbrev pub says_confirm : ℕ → Event → Option (Option Name)
says_confirm r (event.Confirm s p) = only_if (r == s) (Some p)
says_confirm r e = None

-- the performer that was confirmed on a request, if one was
abbrev pub confirmed : ℕ → List Entry → Option Name
confirmed r es = latest (says_confirm r) None es

-- whether an event rejects this performer on a request
abbrev pub is_reject : ℕ → Name → Event → Bool
is_reject r p (event.Reject s q) = (r == s) && same_name p q
is_reject r p e = false

-- whether this performer was rejected on a request
abbrev pub is_rejected : ℕ → Name → List Entry → Bool
is_rejected r p es = has_been (is_reject r p) es

-- whether an event says that no performer is free for a request
abbrev pub leaves_unserved : ℕ → Event → Bool
leaves_unserved r (event.Unserved s) = r == s
leaves_unserved r e = false

-- whether a request is unserved: no performer was free for it
abbrev pub is_unserved : ℕ → List Entry → Bool
is_unserved r es = has_been (leaves_unserved r) es

-- whether a request is open: its act is active in the present plan, nobody was confirmed on it, and it isn't unserved
abbrev pub is_open : ℕ → List Entry → Bool
is_open r es = is_for_active r es && (is_none (confirmed r es) && not (is_unserved r es))

-- ---- work

-- what an event says of whether a performer is engaged
abbrev pub says_engaged : Name → Event → Option Bool
says_engaged p (event.Offer r q) = only_if (same_name p q) true
says_engaged p (event.Reject r q) = only_if (same_name p q) false
says_engaged p (event.Finish r q ok) = only_if (same_name p q) false
says_engaged p (event.Stopped r q) = only_if (same_name p q) false
says_engaged p e = None

-- whether a performer is engaged: from its offer until it is rejected, finishes or stops
abbrev pub is_engaged : Name → List Entry → Bool
is_engaged p es = latest (says_engaged p) false es

-- whether an event is the beginning of this performer on a request
abbrev pub is_begin : ℕ → Name → Event → Bool
is_begin r p (event.Begin s q) = (r == s) && same_name p q
is_begin r p e = false

-- whether this performer has begun the work on a request
abbrev pub has_begun : ℕ → Name → List Entry → Bool
has_begun r p es = has_been (is_begin r p) es

-- what an event says of whether this performer works on a request
abbrev pub says_working : ℕ → Name → Event → Option Bool
says_working r p (event.Begin s q) = only_if ((r == s) && same_name p q) true
says_working r p (event.Finish s q ok) = only_if ((r == s) && same_name p q) false
says_working r p (event.Stopped s q) = only_if ((r == s) && same_name p q) false
says_working r p e = None

-- whether this performer works on a request: from its beginning until it finishes or stops
abbrev pub is_working : ℕ → Name → List Entry → Bool
is_working r p es = latest (says_working r p) false es

-- whether an event ends the work of this performer on a request
abbrev pub is_last : ℕ → Name → Event → Bool
is_last r p (event.Finish s q ok) = (r == s) && same_name p q
is_last r p (event.Stopped s q) = (r == s) && same_name p q
is_last r p e = false

-- whether this performer has finished or stopped on a request
abbrev pub is_through : ℕ → Name → List Entry → Bool
is_through r p es = has_been (is_last r p) es

-- what an event says of how the work on a request was finished
abbrev pub says_finish : ℕ → Event → Option (Option Bool)
says_finish r (event.Finish s p ok) = only_if (r == s) (Some ok)
says_finish r e = None

-- whether the work on a request was finished well; nothing where it was not finished
abbrev pub finish_of : ℕ → List Entry → Option Bool
finish_of r es = latest (says_finish r) None es

-- whether an event is a beginning of this performer
abbrev pub begins_by : Name → Event → Bool
begins_by p (event.Begin r q) = same_name p q
begins_by p e = false

-- how often this performer has begun in the session
abbrev pub begins : Name → List Entry → ℕ
begins p es = times (begins_by p) es

-- whether an event is a unit that this performer does on a request
abbrev pub is_unit : ℕ → Name → Event → Bool
is_unit r p (event.Edit (Performer s q) edit) = (r == s) && same_name p q
is_unit r p (event.Refused (Performer s q) why) = (r == s) && same_name p q
is_unit r p (event.UnitWork s q) = (r == s) && same_name p q
is_unit r p (event.Feedback s q percent text) = (r == s) && same_name p q
is_unit r p (event.Finish s q ok) = (r == s) && same_name p q
is_unit r p e = false

-- how many units this performer has done on a request
abbrev pub units_done : ℕ → Name → List Entry → ℕ
units_done r p es = times (is_unit r p) es
