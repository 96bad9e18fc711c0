-- What changes of a job is told of the one who was confirmed.
use Rattle.std.proofs.Common.{◌≡◌, ℕ, ◌+◌, ◌<◌, ◌==◌, ◌&&◌, ◌||◌, nat_lt, Bool, true, false, Option, Some, None, is_none, if◌then◌else◌, List, [], ◌∷◌, ◌++◌, length, refl, ap, sym, arith, ◌∙◌}
use Rattle.std.proofs.lemmas.Bool.{eqb-true, true≢false, and_parts}
use Rattle.std.proofs.lemmas.Bool.Decides.{nat_tests}
use Rattle.std.specs.Option.{unwrap_or}
use Rattle.ps_world.specs.Names.{same_name}
use Rattle.ps_world.specs.declared.names.Name.{Name}
use Rattle.ps_world.proofs.Truths.{or_false}
use Rattle.ps_machine.specs.declared.journal.Event.TheVariants as event
use Rattle.ps_machine.specs.declared.journal.Entry.{Entry}
use Rattle.ps_rules.specs.Reading.{only_if}
use Rattle.ps_rules.specs.Auctions.{confirmed, has_begun, is_begin, is_last, is_through, is_unit, is_working, says_confirm, says_working, units_done}
use Rattle.ps_rules.proofs.Kept.{confirmed_by}
use Rattle.ps_rules.proofs.Pushed.{read-push}
use Rattle.ps_ledger.specs.Kept.{put}
use Rattle.ps_ledger.proofs.Lists.{at-set, put-set}
use Rattle.ps_ledger.specs.declared.work.Job.{Job}
use Rattle.ps_ledger.specs.declared.work.Work.{Work}
use Rattle.ps_ledger.specs.Work.{begun_job, is_by, job_at, new_job, no_job, stopped_job, TellsUnits, TellsWork, with_job, with_worker}

is_by_one : (o : Option Name) (p q : Name) → is_by o q ≡ true → is_by o p ≡ same_name p q
is_by_one o p q h = ap (λ x. is_by x p) (confirmed_by q o h)

at-job : (old new : List Job) (r k : ℕ) (x : Job) → new ≡ put old r x → nat_lt r (length old) ≡ true → job_at new k ≡ (if k == r then x else job_at old k)
at-job old new r k x made there =
    let lt : r < length old = grind (arith, nat_tests, there) in
    ap (λ all. job_at all k) (made ∙ put-set old r x there) ∙ at-set old r k x no_job (k == r) refl lt

-- what is told of a job and of whether it is this one's
abbrev say : {B : Type 0} → (Bool → Job → B) → Name → Job → B
say f p j = f (is_by j.by p) j

step : {B : Type 0} (f : Bool → Job → B) (next : Bool → B → B) (j old x : Job) (p q : Name) (t : Bool) → (t ≡ true → j ≡ old) → is_by old.by q ≡ true → x.by ≡ old.by
    → ((b : B) → next false b ≡ b) → ((s : Bool) → next s (f s old) ≡ f s x)
    → next (t && same_name p q) (say f p j) ≡ say f p (if t then x else j)
step f next j old x p q true same mine by stays goes =
    ap (λ i. next (same_name p q) (say f p i)) (same refl)
    ∙ ap (λ s. next (same_name p q) (f s old)) (is_by_one old.by p q mine)
    ∙ goes (same_name p q)
    ∙ ap (λ s. f s x) (sym (ap (λ o. is_by o p) by ∙ is_by_one old.by p q mine))
step f next j old x p q false same mine by stays goes = stays (say f p j)

-- a change of the job of the one who was confirmed
pub change : {B : Type 0} (f : Bool → Job → B) (next : Bool → B → B) (old new : List Job) (r : ℕ) (q : Name) (x : Job)
    → new ≡ put old r x → nat_lt r (length old) ≡ true → is_by (job_at old r).by q ≡ true → x.by ≡ (job_at old r).by
    → ((b : B) → next false b ≡ b) → ((s : Bool) → next s (f s (job_at old r)) ≡ f s x)
    → (k : ℕ) (p : Name) → next ((k == r) && same_name p q) (say f p (job_at old k)) ≡ say f p (job_at new k)
change f next old new r q x made there mine by stays goes k p =
    step f next (job_at old k) (job_at old r) x p q (k == r) (λ e. ap (job_at old) (eqb-true k r e)) mine by stays goes
    ∙ ap (say f p) (sym (at-job old new r k x made there))

-- its `by` stays
kept-by : (old x j : Job) (t : Bool) → (t ≡ true → j ≡ old) → x.by ≡ old.by → j.by ≡ (if t then x else j).by
kept-by old x j true same by = ap (λ i. i.by) (same refl) ∙ sym by
kept-by old x j false same by = refl

pub stays-by : (old new : List Job) (r : ℕ) (x : Job) → new ≡ put old r x → nat_lt r (length old) ≡ true → x.by ≡ (job_at old r).by → (k : ℕ) → (job_at old k).by ≡ (job_at new k).by
stays-by old new r x made there by k = kept-by (job_at old r) x (job_at old k) (k == r) (λ e. ap (job_at old) (eqb-true k r e)) by ∙ ap (λ j. j.by) (sym (at-job old new r k x made there))

-- ---- flags and counts

tell : (s b : Bool) → ((s && b) || s) ≡ (s && true)
tell true true = refl
tell true false = refl
tell false b = refl

flag : (v s w : Bool) → unwrap_or (only_if s v) (s && w) ≡ (s && v)
flag v true w = refl
flag v false w = refl

count : (n : ℕ) (s : Bool) → (if s then (if s then n else 0) + 1 else (if s then n else 0)) ≡ (if s then n + 1 else 0)
count n true = refl
count n false = refl

keep : {B : Type 0} (b : B) → b ≡ b
keep b = refl

-- ---- the events

pub begun : (es : List Entry) (e : Entry) (old new : Work) (r : ℕ) (q : Name) → TellsWork es old → e.what ≡ event.Begin r q
    → new.jobs.items ≡ with_job begun_job old.jobs.items r → (nat_lt r (length old.jobs.items) && is_by (job_at old.jobs.items r).by q) ≡ true
    → TellsWork (es ++ e ∷ []) new
begun es e old new r q t is made speaks =
    let ok = and_parts (nat_lt r (length old.jobs.items)) (is_by (job_at old.jobs.items r).by q) speaks in
    record {
      confirms = λ k. read-push (λ a f. unwrap_or (says_confirm k f) a) None es e ∙ ap (λ w. unwrap_or (says_confirm k w) (confirmed k es)) is ∙ t.confirms k
          ∙ stays-by old.jobs.items new.jobs.items r (begun_job (job_at old.jobs.items r)) made ok.0 refl k;
      begins = λ k p. read-push (λ a f. a || is_begin k p f) false es e ∙ ap (λ w. has_begun k p es || is_begin k p w) is ∙ ap (λ b. b || ((k == r) && same_name p q)) (t.begins k p)
          ∙ change (λ s j. s && j.begun) (λ s b. b || s) old.jobs.items new.jobs.items r q (begun_job (job_at old.jobs.items r)) made ok.0 ok.1 refl or_false (λ s. tell s (job_at old.jobs.items r).begun) k p;
      works = λ k p. read-push (λ a f. unwrap_or (says_working k p f) a) false es e ∙ ap (λ w. unwrap_or (says_working k p w) (is_working k p es)) is ∙ ap (unwrap_or (only_if ((k == r) && same_name p q) true)) (t.works k p)
          ∙ change (λ s j. s && j.works) (λ s b. unwrap_or (only_if s true) b) old.jobs.items new.jobs.items r q (begun_job (job_at old.jobs.items r)) made ok.0 ok.1 refl keep (λ s. flag true s (job_at old.jobs.items r).works) k p;
    }

pub begun-units : (es : List Entry) (e : Entry) (old new : Work) (r : ℕ) (q : Name) → TellsUnits es old → e.what ≡ event.Begin r q
    → new.jobs.items ≡ with_job begun_job old.jobs.items r → (nat_lt r (length old.jobs.items) && is_by (job_at old.jobs.items r).by q) ≡ true
    → TellsUnits (es ++ e ∷ []) new
begun-units es e old new r q t is made speaks =
    let ok = and_parts (nat_lt r (length old.jobs.items)) (is_by (job_at old.jobs.items r).by q) speaks in
    record {
      ends = λ k p. read-push (λ a f. a || is_last k p f) false es e ∙ ap (λ w. is_through k p es || is_last k p w) is ∙ or_false _ ∙ t.ends k p
          ∙ change (λ s j. s && j.through) (λ s b. b) old.jobs.items new.jobs.items r q (begun_job (job_at old.jobs.items r)) made ok.0 ok.1 refl keep (λ s. refl) k p;
      counts = λ k p. read-push (λ n f. if is_unit k p f then n + 1 else n) 0 es e ∙ ap (λ w. if is_unit k p w then units_done k p es + 1 else units_done k p es) is ∙ t.counts k p
          ∙ change (λ s j. if s then j.units else 0) (λ s b. b) old.jobs.items new.jobs.items r q (begun_job (job_at old.jobs.items r)) made ok.0 ok.1 refl keep (λ s. refl) k p;
    }

-- work that ends, by a finish or a stop
pub ended : (es : List Entry) (e : Entry) (old new : Work) (r : ℕ) (q : Name) (x : Job) → TellsWork es old
    → ((k : ℕ) → says_confirm k e.what ≡ None) → ((k : ℕ) (p : Name) → is_begin k p e.what ≡ false) → ((k : ℕ) (p : Name) → says_working k p e.what ≡ only_if ((k == r) && same_name p q) false)
    → new.jobs.items ≡ put old.jobs.items r x → x.by ≡ (job_at old.jobs.items r).by → x.begun ≡ (job_at old.jobs.items r).begun → x.works ≡ false
    → nat_lt r (length old.jobs.items) ≡ true → is_by (job_at old.jobs.items r).by q ≡ true
    → TellsWork (es ++ e ∷ []) new
ended es e old new r q x t no_confirm no_begin stops made by same_begun no_work there mine =
    record {
      confirms = λ k. read-push (λ a f. unwrap_or (says_confirm k f) a) None es e ∙ ap (λ o. unwrap_or o (confirmed k es)) (no_confirm k) ∙ t.confirms k ∙ stays-by old.jobs.items new.jobs.items r x made there by k;
      begins = λ k p. read-push (λ a f. a || is_begin k p f) false es e ∙ ap (λ b. has_begun k p es || b) (no_begin k p) ∙ or_false _ ∙ t.begins k p
          ∙ change (λ s j. s && j.begun) (λ s b. b) old.jobs.items new.jobs.items r q x made there mine by keep (λ s. ap (λ b. s && b) (sym same_begun)) k p;
      works = λ k p. read-push (λ a f. unwrap_or (says_working k p f) a) false es e ∙ ap (λ o. unwrap_or o (is_working k p es)) (stops k p) ∙ ap (unwrap_or (only_if ((k == r) && same_name p q) false)) (t.works k p)
          ∙ change (λ s j. s && j.works) (λ s b. unwrap_or (only_if s false) b) old.jobs.items new.jobs.items r q x made there mine by keep (λ s. flag false s (job_at old.jobs.items r).works ∙ ap (λ b. s && b) (sym no_work)) k p;
    }

pub stopped-units : (es : List Entry) (e : Entry) (old new : Work) (r : ℕ) (q : Name) → TellsUnits es old → e.what ≡ event.Stopped r q
    → new.jobs.items ≡ with_job stopped_job old.jobs.items r → (nat_lt r (length old.jobs.items) && is_by (job_at old.jobs.items r).by q) ≡ true
    → TellsUnits (es ++ e ∷ []) new
stopped-units es e old new r q t is made speaks =
    let ok = and_parts (nat_lt r (length old.jobs.items)) (is_by (job_at old.jobs.items r).by q) speaks in
    record {
      ends = λ k p. read-push (λ a f. a || is_last k p f) false es e ∙ ap (λ w. is_through k p es || is_last k p w) is ∙ ap (λ b. b || ((k == r) && same_name p q)) (t.ends k p)
          ∙ change (λ s j. s && j.through) (λ s b. b || s) old.jobs.items new.jobs.items r q (stopped_job (job_at old.jobs.items r)) made ok.0 ok.1 refl or_false (λ s. tell s (job_at old.jobs.items r).through) k p;
      counts = λ k p. read-push (λ n f. if is_unit k p f then n + 1 else n) 0 es e ∙ ap (λ w. if is_unit k p w then units_done k p es + 1 else units_done k p es) is ∙ t.counts k p
          ∙ change (λ s j. if s then j.units else 0) (λ s b. b) old.jobs.items new.jobs.items r q (stopped_job (job_at old.jobs.items r)) made ok.0 ok.1 refl keep (λ s. refl) k p;
    }

-- ---- a confirm

new-job : {B : Type 0} (f : Bool → Job → B) (old x j : Job) (p : Name) (t : Bool) → (t ≡ true → j ≡ old) → old.by ≡ None → ((s : Bool) → f false old ≡ f s x) → say f p j ≡ say f p (if t then x else j)
new-job f old x j p true same none goes = ap (say f p) (same refl) ∙ ap (λ o. f (is_by o p) old) none ∙ goes (is_by x.by p)
new-job f old x j p false same none goes = refl

renew : {B : Type 0} (f : Bool → Job → B) (old new : List Job) (r : ℕ) (x : Job) → new ≡ put old r x → nat_lt r (length old) ≡ true → (job_at old r).by ≡ None → ((s : Bool) → f false (job_at old r) ≡ f s x)
    → (k : ℕ) (p : Name) → say f p (job_at old k) ≡ say f p (job_at new k)
renew f old new r x made there none goes k p =
    new-job f (job_at old r) x (job_at old k) p (k == r) (λ e. ap (job_at old) (eqb-true k r e)) none goes ∙ ap (say f p) (sym (at-job old new r k x made there))

nobody : (o : Option Name) → is_none o ≡ true → o ≡ None
nobody None h = refl
nobody (Some p) h = absurd (true≢false (sym h))

and-false : (s : Bool) → false ≡ (s && false)
and-false true = refl
and-false false = refl

either : (n : ℕ) (s : Bool) → n ≡ (if s then n else n)
either n true = refl
either n false = refl

named : (t : Bool) (q : Name) (j x : Job) (o : Option Name) → x.by ≡ Some q → o ≡ j.by → unwrap_or (only_if t (Some q)) o ≡ (if t then x else j).by
named true q j x o by is = sym by
named false q j x o by is = is

pub confirmed-now : (es : List Entry) (e : Entry) (old new : Work) (r : ℕ) (q : Name) → TellsWork es old → e.what ≡ event.Confirm r q
    → new.jobs.items ≡ with_worker old.jobs.items r q → (nat_lt r (length old.jobs.items) && is_none (job_at old.jobs.items r).by) ≡ true
    → TellsWork (es ++ e ∷ []) new
confirmed-now es e old new r q t is made speaks =
    let ok = and_parts (nat_lt r (length old.jobs.items)) (is_none (job_at old.jobs.items r).by) speaks in
    let none = nobody (job_at old.jobs.items r).by ok.1 in
    record {
      confirms = λ k. read-push (λ a f. unwrap_or (says_confirm k f) a) None es e ∙ ap (λ w. unwrap_or (says_confirm k w) (confirmed k es)) is
          ∙ named (k == r) q (job_at old.jobs.items k) (new_job q) (confirmed k es) refl (t.confirms k)
          ∙ ap (λ j. j.by) (sym (at-job old.jobs.items new.jobs.items r k (new_job q) made ok.0));
      begins = λ k p. read-push (λ a f. a || is_begin k p f) false es e ∙ ap (λ w. has_begun k p es || is_begin k p w) is ∙ or_false _ ∙ t.begins k p
          ∙ renew (λ s j. s && j.begun) old.jobs.items new.jobs.items r (new_job q) made ok.0 none and-false k p;
      works = λ k p. read-push (λ a f. unwrap_or (says_working k p f) a) false es e ∙ ap (λ w. unwrap_or (says_working k p w) (is_working k p es)) is ∙ t.works k p
          ∙ renew (λ s j. s && j.works) old.jobs.items new.jobs.items r (new_job q) made ok.0 none and-false k p;
    }

pub confirmed-units : (es : List Entry) (e : Entry) (old new : Work) (r : ℕ) (q : Name) → TellsUnits es old → e.what ≡ event.Confirm r q
    → new.jobs.items ≡ with_worker old.jobs.items r q → (nat_lt r (length old.jobs.items) && is_none (job_at old.jobs.items r).by) ≡ true
    → TellsUnits (es ++ e ∷ []) new
confirmed-units es e old new r q t is made speaks =
    let ok = and_parts (nat_lt r (length old.jobs.items)) (is_none (job_at old.jobs.items r).by) speaks in
    let none = nobody (job_at old.jobs.items r).by ok.1 in
    record {
      ends = λ k p. read-push (λ a f. a || is_last k p f) false es e ∙ ap (λ w. is_through k p es || is_last k p w) is ∙ or_false _ ∙ t.ends k p
          ∙ renew (λ s j. s && j.through) old.jobs.items new.jobs.items r (new_job q) made ok.0 none and-false k p;
      counts = λ k p. read-push (λ n f. if is_unit k p f then n + 1 else n) 0 es e ∙ ap (λ w. if is_unit k p w then units_done k p es + 1 else units_done k p es) is ∙ t.counts k p
          ∙ renew (λ s j. if s then j.units else 0) old.jobs.items new.jobs.items r (new_job q) made ok.0 none (either 0) k p;
    }
