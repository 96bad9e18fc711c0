-- What one more answer makes of the answers that are kept.
use Rattle.std.proofs.Common.{◌≡◌, ℕ, ◌<◌, ◌≤◌, ◌==◌, ◌&&◌, ◌||◌, nat_lt, Bool, true, false, Some, None, if◌then◌else◌, List, [], ◌∷◌, ◌++◌, length, replicate, refl, ap, sym, arith, ◌∙◌}
use Rattle.std.proofs.lemmas.Bool.{eqb-true, and_parts}
use Rattle.std.proofs.lemmas.Bool.Decides.{nat_tests}
use Rattle.std.proofs.lemmas.List.{length-set}
use Rattle.std.specs.Option.{unwrap_or}
use Rattle.ps_world.specs.Names.{same_name}
use Rattle.ps_world.specs.declared.names.Name.{Name}
use Rattle.ps_world.proofs.Truths.{or_false}
use Rattle.ps_world.proofs.Elements.{index_replicate}
use Rattle.ps_action.proofs.MadeValues.{or_true}
use Rattle.ps_action.proofs.Facts.{same_name-is}
use Rattle.ps_machine.specs.declared.journal.PassWhy.{PassWhy}
use Rattle.ps_machine.specs.declared.journal.Event.TheVariants as event
use Rattle.ps_machine.specs.declared.journal.Entry.{Entry}
use Rattle.ps_rules.specs.Reading.{only_if}
use Rattle.ps_rules.specs.Auctions.{has_answered, has_offered, is_answer, is_offer, is_reject, is_rejected, pass_of, says_pass}
use Rattle.ps_rules.proofs.Pushed.{read-push}
use Rattle.ps_ledger.specs.declared.answers.Answer.{Answer}
use Rattle.ps_ledger.specs.declared.answers.Answers.{Answers}
use Rattle.ps_ledger.specs.Answers.{answer_at, has_answer, is_given, no_answer, row_at, TellsAnswers, with_answer}
use Rattle.ps_ledger.specs.Members.{at_name, place_in, with_named}
use Rattle.ps_ledger.proofs.Lists.{at-push-default, at-set, beyond, put-set}
use Rattle.ps_ledger.proofs.NamePlaces.{named-at}

-- an empty journal tells of no answer
pub told-nothing : (names : List Name) (l : Answers) → l.rows.items ≡ [] → TellsAnswers names [] l
told-nothing names l none =
    let at : (r : ℕ) (p : Name) → answer_at names l.rows.items r p ≡ no_answer = λ r p. ap (λ rows. answer_at names rows r p) none ∙ index_replicate 64 (place_in names p) no_answer in
    record {
      wide = λ r. ap (λ rows. length (row_at rows r)) none;
      answers = λ r p. sym (ap is_given (at r p));
      offers = λ r p. sym (ap (λ a. a.offered) (at r p));
      passes = λ r p. sym (ap (λ a. a.passed) (at r p));
      rejects = λ r p. sym (ap (λ a. a.rejected) (at r p));
    }

-- where there is no row there is no answer
pub no-row : (names : List Name) (rows : List (List Answer)) (r : ℕ) (p : Name) → length rows ≤ r → no_answer ≡ answer_at names rows r p
no-row names rows r p none =
    sym (ap (λ row. at_name names row p no_answer) (beyond rows r (replicate 64 no_answer) none) ∙ index_replicate 64 (place_in names p) no_answer)

keep : {B : Type 0} (b : B) → b ≡ b
keep b = refl

row-now : (names : List Name) (old : List (List Answer)) (r k : ℕ) (q p : Name) (x : Answer) (t : Bool) → (k == r) ≡ t
    → nat_lt (place_in names q) (length names) ≡ true → nat_lt (place_in names q) (length (row_at old r)) ≡ true
    → at_name names (if t then with_named names (row_at old r) q x else row_at old k) p no_answer ≡ (if t && same_name p q then x else answer_at names old k p)
row-now names old r k q p x true e named there =
    named-at names (row_at old r) q p x no_answer named there
    ∙ ap (λ n. if same_name p q then x else answer_at names old n p) (sym (eqb-true k r e))
row-now names old r k q p x false e named there = refl

-- the answer of a performer to a request, where that of one that is there is another one
answer-now : (names : List Name) (old new : List (List Answer)) (r k : ℕ) (q p : Name) (x : Answer)
    → length (row_at old r) ≡ 64 → has_answer names old r q ≡ true → new ≡ with_answer names old r q x
    → answer_at names new k p ≡ (if (k == r) && same_name p q then x else answer_at names old k p)
answer-now names old new r k q p x wide there made =
    let one = and_parts (nat_lt r (length old)) (nat_lt (place_in names q) (length names) && nat_lt (place_in names q) 64) there in
    let two = and_parts (nat_lt (place_in names q) (length names)) (nat_lt (place_in names q) 64) one.1 in
    let lt : r < length old = grind (arith, nat_tests, one.0) in
    let row : List Answer = with_named names (row_at old r) q x in
    ap (λ rows. answer_at names rows k p) (made ∙ put-set old r row one.0)
    ∙ ap (λ xs. at_name names xs p no_answer) (at-set old r k row (replicate 64 no_answer) (k == r) refl lt)
    ∙ row-now names old r k q p x (k == r) refl two.0 (ap (nat_lt (place_in names q)) wide ∙ two.1)

-- what is told of an answer, where an event makes of it what the new answer tells
told-step : {B : Type 0} (f : Answer → B) (next : Bool → B → B) (names : List Name) (old : List (List Answer)) (r k : ℕ) (q p : Name) (x : Answer) (s t : Bool)
    → (k == r) ≡ s → same_name p q ≡ t → ((b : B) → next false b ≡ b) → next true (f (answer_at names old r q)) ≡ f x
    → next (s && t) (f (answer_at names old k p)) ≡ f (if s && t then x else answer_at names old k p)
told-step f next names old r k q p x true true e g stays goes =
    ap (λ n. next true (f (answer_at names old n p))) (eqb-true k r e)
    ∙ ap (λ n. next true (f (answer_at names old r n))) (same_name-is p q g)
    ∙ goes
told-step f next names old r k q p x true false e g stays goes = stays (f (answer_at names old k p))
told-step f next names old r k q p x false t e g stays goes = stays (f (answer_at names old k p))

told : {B : Type 0} (f : Answer → B) (next : Bool → B → B) (names : List Name) (old new : List (List Answer)) (r : ℕ) (q : Name) (x : Answer)
    → length (row_at old r) ≡ 64 → has_answer names old r q ≡ true → new ≡ with_answer names old r q x
    → ((b : B) → next false b ≡ b) → next true (f (answer_at names old r q)) ≡ f x
    → (k : ℕ) (p : Name) → next ((k == r) && same_name p q) (f (answer_at names old k p)) ≡ f (answer_at names new k p)
told f next names old new r q x wide there made stays goes k p =
    told-step f next names old r k q p x (k == r) (same_name p q) refl refl stays goes
    ∙ ap f (sym (answer-now names old new r k q p x wide there made))

wide-if : (names : List Name) (old : List (List Answer)) (r k : ℕ) (q : Name) (x : Answer) (t : Bool) → ((k : ℕ) → length (row_at old k) ≡ 64)
    → nat_lt (place_in names q) (length (row_at old r)) ≡ true → length (if t then with_named names (row_at old r) q x else row_at old k) ≡ 64
wide-if names old r k q x true wide there = ap length (put-set (row_at old r) (place_in names q) x there) ∙ length-set (row_at old r) (place_in names q) x ∙ wide r
wide-if names old r k q x false wide there = wide k

-- rows stay as long as they are
wide-now : (names : List Name) (old new : List (List Answer)) (r : ℕ) (q : Name) (x : Answer) → ((k : ℕ) → length (row_at old k) ≡ 64) → has_answer names old r q ≡ true
    → new ≡ with_answer names old r q x → (k : ℕ) → length (row_at new k) ≡ 64
wide-now names old new r q x wide there made k =
    let one = and_parts (nat_lt r (length old)) (nat_lt (place_in names q) (length names) && nat_lt (place_in names q) 64) there in
    let two = and_parts (nat_lt (place_in names q) (length names)) (nat_lt (place_in names q) 64) one.1 in
    let lt : r < length old = grind (arith, nat_tests, one.0) in
    let row : List Answer = with_named names (row_at old r) q x in
    ap (λ rows. length (row_at rows k)) (made ∙ put-set old r row one.0)
    ∙ ap length (at-set old r k row (replicate 64 no_answer) (k == r) refl lt)
    ∙ wide-if names old r k q x (k == r) wide (ap (nat_lt (place_in names q)) (wide r) ∙ two.1)

-- an offer
pub offered-now : (names : List Name) (es : List Entry) (e : Entry) (old new : Answers) (r : ℕ) (q : Name) → TellsAnswers names es old → e.what ≡ event.Offer r q
    → has_answer names old.rows.items r q ≡ true
    → new.rows.items ≡ with_answer names old.rows.items r q (record (answer_at names old.rows.items r q) { offered = true })
    → TellsAnswers names (es ++ e ∷ []) new
offered-now names es e old new r q t is there made =
    let rows : List (List Answer) = old.rows.items in
    let a : Answer = answer_at names rows r q in
    let x : Answer = record a { offered = true } in
    record {
      wide = wide-now names rows new.rows.items r q x t.wide there made;
      answers = λ k p. read-push (λ b f. b || is_answer k p f) false es e ∙ ap (λ w. has_answered k p es || is_answer k p w) is ∙ ap (λ b. b || ((k == r) && same_name p q)) (t.answers k p)
          ∙ told is_given (λ s b. b || s) names rows new.rows.items r q x (t.wide r) there made or_false (or_true (is_given a)) k p;
      offers = λ k p. read-push (λ b f. b || is_offer k p f) false es e ∙ ap (λ w. has_offered k p es || is_offer k p w) is ∙ ap (λ b. b || ((k == r) && same_name p q)) (t.offers k p)
          ∙ told (λ y. y.offered) (λ s b. b || s) names rows new.rows.items r q x (t.wide r) there made or_false (or_true a.offered) k p;
      passes = λ k p. read-push (λ b f. unwrap_or (says_pass k p f) b) None es e ∙ ap (λ w. unwrap_or (says_pass k p w) (pass_of k p es)) is ∙ t.passes k p
          ∙ told (λ y. y.passed) (λ s b. b) names rows new.rows.items r q x (t.wide r) there made keep refl k p;
      rejects = λ k p. read-push (λ b f. b || is_reject k p f) false es e ∙ ap (λ w. is_rejected k p es || is_reject k p w) is ∙ or_false _ ∙ t.rejects k p
          ∙ told (λ y. y.rejected) (λ s b. b) names rows new.rows.items r q x (t.wide r) there made keep refl k p;
    }

-- a pass
pub passed-now : (names : List Name) (es : List Entry) (e : Entry) (old new : Answers) (r : ℕ) (q : Name) (why : PassWhy) → TellsAnswers names es old → e.what ≡ event.Pass r q why
    → has_answer names old.rows.items r q ≡ true
    → new.rows.items ≡ with_answer names old.rows.items r q (record (answer_at names old.rows.items r q) { passed = Some why })
    → TellsAnswers names (es ++ e ∷ []) new
passed-now names es e old new r q why t is there made =
    let rows : List (List Answer) = old.rows.items in
    let a : Answer = answer_at names rows r q in
    let x : Answer = record a { passed = Some why } in
    record {
      wide = wide-now names rows new.rows.items r q x t.wide there made;
      answers = λ k p. read-push (λ b f. b || is_answer k p f) false es e ∙ ap (λ w. has_answered k p es || is_answer k p w) is ∙ ap (λ b. b || ((k == r) && same_name p q)) (t.answers k p)
          ∙ told is_given (λ s b. b || s) names rows new.rows.items r q x (t.wide r) there made or_false (or_true (is_given a) ∙ sym (or_true a.offered)) k p;
      offers = λ k p. read-push (λ b f. b || is_offer k p f) false es e ∙ ap (λ w. has_offered k p es || is_offer k p w) is ∙ or_false _ ∙ t.offers k p
          ∙ told (λ y. y.offered) (λ s b. b) names rows new.rows.items r q x (t.wide r) there made keep refl k p;
      passes = λ k p. read-push (λ b f. unwrap_or (says_pass k p f) b) None es e ∙ ap (λ w. unwrap_or (says_pass k p w) (pass_of k p es)) is ∙ ap (unwrap_or (only_if ((k == r) && same_name p q) (Some why))) (t.passes k p)
          ∙ told (λ y. y.passed) (λ s b. unwrap_or (only_if s (Some why)) b) names rows new.rows.items r q x (t.wide r) there made keep refl k p;
      rejects = λ k p. read-push (λ b f. b || is_reject k p f) false es e ∙ ap (λ w. is_rejected k p es || is_reject k p w) is ∙ or_false _ ∙ t.rejects k p
          ∙ told (λ y. y.rejected) (λ s b. b) names rows new.rows.items r q x (t.wide r) there made keep refl k p;
    }

-- a rejection
pub rejected-now : (names : List Name) (es : List Entry) (e : Entry) (old new : Answers) (r : ℕ) (q : Name) → TellsAnswers names es old → e.what ≡ event.Reject r q
    → has_answer names old.rows.items r q ≡ true
    → new.rows.items ≡ with_answer names old.rows.items r q (record (answer_at names old.rows.items r q) { rejected = true })
    → TellsAnswers names (es ++ e ∷ []) new
rejected-now names es e old new r q t is there made =
    let rows : List (List Answer) = old.rows.items in
    let a : Answer = answer_at names rows r q in
    let x : Answer = record a { rejected = true } in
    record {
      wide = wide-now names rows new.rows.items r q x t.wide there made;
      answers = λ k p. read-push (λ b f. b || is_answer k p f) false es e ∙ ap (λ w. has_answered k p es || is_answer k p w) is ∙ or_false _ ∙ t.answers k p
          ∙ told is_given (λ s b. b) names rows new.rows.items r q x (t.wide r) there made keep refl k p;
      offers = λ k p. read-push (λ b f. b || is_offer k p f) false es e ∙ ap (λ w. has_offered k p es || is_offer k p w) is ∙ or_false _ ∙ t.offers k p
          ∙ told (λ y. y.offered) (λ s b. b) names rows new.rows.items r q x (t.wide r) there made keep refl k p;
      passes = λ k p. read-push (λ b f. unwrap_or (says_pass k p f) b) None es e ∙ ap (λ w. unwrap_or (says_pass k p w) (pass_of k p es)) is ∙ t.passes k p
          ∙ told (λ y. y.passed) (λ s b. b) names rows new.rows.items r q x (t.wide r) there made keep refl k p;
      rejects = λ k p. read-push (λ b f. b || is_reject k p f) false es e ∙ ap (λ w. is_rejected k p es || is_reject k p w) is ∙ ap (λ b. b || ((k == r) && same_name p q)) (t.rejects k p)
          ∙ told (λ y. y.rejected) (λ s b. b || s) names rows new.rows.items r q x (t.wide r) there made or_false (or_true a.rejected) k p;
    }

-- an event that is no answer
pub no-answer-now : (names : List Name) (es : List Entry) (e : Entry) (old new : Answers) → TellsAnswers names es old
    → ((k : ℕ) (p : Name) → is_answer k p e.what ≡ false) → ((k : ℕ) (p : Name) → is_offer k p e.what ≡ false)
    → ((k : ℕ) (p : Name) → says_pass k p e.what ≡ None) → ((k : ℕ) (p : Name) → is_reject k p e.what ≡ false)
    → ((k : ℕ) → row_at old.rows.items k ≡ row_at new.rows.items k)
    → TellsAnswers names (es ++ e ∷ []) new
no-answer-now names es e old new t answers offers passes rejects rows =
    let at : (k : ℕ) (p : Name) → answer_at names old.rows.items k p ≡ answer_at names new.rows.items k p = λ k p. ap (λ row. at_name names row p no_answer) (rows k) in
    record {
      wide = λ k. ap length (sym (rows k)) ∙ t.wide k;
      answers = λ k p. read-push (λ b f. b || is_answer k p f) false es e ∙ ap (λ b. has_answered k p es || b) (answers k p) ∙ or_false _ ∙ t.answers k p ∙ ap is_given (at k p);
      offers = λ k p. read-push (λ b f. b || is_offer k p f) false es e ∙ ap (λ b. has_offered k p es || b) (offers k p) ∙ or_false _ ∙ t.offers k p ∙ ap (λ a. a.offered) (at k p);
      passes = λ k p. read-push (λ b f. unwrap_or (says_pass k p f) b) None es e ∙ ap (λ o. unwrap_or o (pass_of k p es)) (passes k p) ∙ t.passes k p ∙ ap (λ a. a.passed) (at k p);
      rejects = λ k p. read-push (λ b f. b || is_reject k p f) false es e ∙ ap (λ b. is_rejected k p es || b) (rejects k p) ∙ or_false _ ∙ t.rejects k p ∙ ap (λ a. a.rejected) (at k p);
    }

-- a request more, of which nothing is answered yet
pub asked-now : (names : List Name) (es : List Entry) (e : Entry) (old new : Answers) (r act : ℕ) → TellsAnswers names es old → e.what ≡ event.Request r act
    → new.rows.items ≡ old.rows.items ++ replicate 64 no_answer ∷ [] → TellsAnswers names (es ++ e ∷ []) new
asked-now names es e old new r act t is made =
    no-answer-now names es e old new t (λ k p. ap (is_answer k p) is) (λ k p. ap (is_offer k p) is) (λ k p. ap (says_pass k p) is) (λ k p. ap (is_reject k p) is)
    (λ k. sym (ap (λ rows. row_at rows k) made ∙ at-push-default old.rows.items k (replicate 64 no_answer)))
