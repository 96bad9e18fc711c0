-- What is kept of the work on requests.
use Rattle.std.specs.Prelude.{◌≡◌, ℕ, ◌+◌, ◌≤◌, nat_lt, Bool, true, false, ◌&&◌, ◌==◌, Option, Some, None, is_none, if◌then◌else◌, List, length, slice_index_or}
use Rattle.std.specs.Option.{option_map_or}
use Rattle.ps_world.specs.Names.{same_name}
use Rattle.ps_world.specs.declared.names.Name.{Name}
use Rattle.ps_machine.specs.declared.journal.By.TheVariants as by
use Rattle.ps_machine.specs.declared.journal.Event.{Event}
use Rattle.ps_machine.specs.declared.journal.Event.TheVariants as event
use Rattle.ps_machine.specs.declared.journal.Entry.{Entry}
use Rattle.ps_rules.specs.Auctions.{confirmed, has_begun, is_through, is_working, requests, units_done}
use Rattle.ps_ledger.specs.Kept.{room_left, put}
use Rattle.ps_ledger.specs.declared.work.Job.{Job}
use Rattle.ps_ledger.specs.declared.work.Work.{Work}

-- a job of nobody
abbrev pub no_job : Job
no_job = record { by = None; begun = false; works = false; through = false; units = 0 }

-- the job of the request with this number
abbrev pub job_at : List Job → ℕ → Job
job_at all r = slice_index_or all r no_job

-- whether this is the one
abbrev pub is_by : Option Name → Name → Bool
is_by who p = option_map_or (same_name p) who false

-- a job of one who was confirmed; a job that has begun, that has finished, that was stopped, and one with a unit more
abbrev pub new_job : Name → Job
new_job p = record { by = Some p; begun = false; works = false; through = false; units = 0 }

abbrev pub begun_job : Job → Job
begun_job j = record j { begun = true; works = true }

abbrev pub finished_job : Job → Job
finished_job j = record j { works = false; through = true; units = j.units + 1 }

abbrev pub stopped_job : Job → Job
stopped_job j = record j { works = false; through = true }

abbrev pub longer_job : Job → Job
longer_job j = record j { units = j.units + 1 }

-- the jobs where one who was confirmed has that of a request, and where that of a request changes so
abbrev pub with_worker : List Job → ℕ → Name → List Job
with_worker all r p = put all r (new_job p)

abbrev pub with_job : (Job → Job) → List Job → ℕ → List Job
with_job change all r = put all r (change (job_at all r))

-- whether a performer was confirmed on a request that is there, and whether it may do a unit more
abbrev pub has_job : List Job → ℕ → Name → Bool
has_job all r p = nat_lt r (length all) && is_by (job_at all r).by p

abbrev pub has_unit : List Job → ℕ → Name → Bool
has_unit all r p = nat_lt r (length all) && (is_by (job_at all r).by p && nat_lt (job_at all r).units 1000)

-- whether an event speaks of requests that are there, and of work by those who were confirmed
abbrev pub speaks_of_jobs : List Job → Event → Bool
speaks_of_jobs all (event.Request r act) = r == length all
speaks_of_jobs all (event.Confirm r p) = nat_lt r (length all) && is_none (job_at all r).by
speaks_of_jobs all (event.Begin r p) = has_job all r p
speaks_of_jobs all (event.UnitWork r p) = has_unit all r p
speaks_of_jobs all (event.Feedback r p percent text) = has_unit all r p
speaks_of_jobs all (event.Finish r p ok) = has_unit all r p
speaks_of_jobs all (event.Stopped r p) = has_job all r p
speaks_of_jobs all (event.Edit (by.Performer r p) edit) = has_unit all r p
speaks_of_jobs all (event.Refused (by.Performer r p) why) = has_unit all r p
speaks_of_jobs all e = true

-- there is memory for the work on so many requests more
abbrev pub HasJobs : ℕ → Work → Type 0
HasJobs n l = n ≤ room_left l.jobs

-- there is a job for each request
pub record TellsJobs (es : List Entry) (l : Work) : Type 0 where
  pub count : requests es ≡ length l.jobs.items

-- What is kept of a job is what the entries tell of the work of the one who was confirmed, and nothing of any other performer.
pub record TellsWork (es : List Entry) (l : Work) : Type 0 where
  pub confirms : (r : ℕ) → confirmed r es ≡ (job_at l.jobs.items r).by
  pub begins : (r : ℕ) (p : Name) → has_begun r p es ≡ (is_by (job_at l.jobs.items r).by p && (job_at l.jobs.items r).begun)
  pub works : (r : ℕ) (p : Name) → is_working r p es ≡ (is_by (job_at l.jobs.items r).by p && (job_at l.jobs.items r).works)

-- And so is how far it has come.
pub record TellsUnits (es : List Entry) (l : Work) : Type 0 where
  pub ends : (r : ℕ) (p : Name) → is_through r p es ≡ (is_by (job_at l.jobs.items r).by p && (job_at l.jobs.items r).through)
  pub counts : (r : ℕ) (p : Name) → units_done r p es ≡ (if is_by (job_at l.jobs.items r).by p then (job_at l.jobs.items r).units else 0)
