-- What the lines of a journal are, one line after another.
use Rattle.std.proofs.Common.{◌≡◌, ℕ, suc, ◌+◌, ◌<◌, ◌≤◌, Bool, true, false, List, [], ◌∷◌, ◌++◌, drop, length, slice_index_or, slice_range, Option, Some, sym, subst, append_assoc, append-nil, arith}
use Rattle.std.proofs.lemmas.List.{drop_all}
use Rattle.ps_world.specs.Names.{Table}
use Rattle.ps_machine.specs.declared.journal.Entry.{Entry}
use Rattle.ps_text.specs.Words.{pieces}
use Rattle.ps_text.specs.declared.spans.Span.{Span}
use Rattle.ps_text.proofs.Pieces.{pieces_more}
use Rattle.ps_entries.specs.EntryLines.{IsEntryLine, IsLineOf, IsNoEntryLine}
use Rattle.ps_entries.specs.Journals.{AreEntries, IsFirstOther, Takes, TakesOrNot, is_reply}
use Rattle.ps_entries.specs.Journals.AreEntries.{none_left, reply as are_reply, entry as are_entry}
use Rattle.ps_entries.specs.Journals.IsFirstOther.{here as other_first, reply as other_reply, entry as other_entry}
use Rattle.ps_entries.specs.Journals.Takes.{reply as take_reply, entry as take_entry}

-- what the lines from this place on are, all lines are, with these entries before
pub record Follows (start : ℕ) (first : Table) (lines : List (List ℕ)) (n : ℕ) (left : List (List ℕ)) (before : List (ℕ × Entry)) (names : Table) : Type 0 where
  pub entries : (es : List (ℕ × Entry)) (after : Table) → AreEntries n names left es after → AreEntries start first lines (before ++ es) after
  pub others : (at : ℕ) → IsFirstOther n names left at → IsFirstOther start first lines at

pub all_follow : (start : ℕ) (first : Table) (lines : List (List ℕ)) → Follows start first lines start lines [] first
all_follow start first lines = record { entries = λ es after x. x; others = λ at x. x }

module _ (start : ℕ) (first : Table) (lines : List (List ℕ)) (n : ℕ) (line : List ℕ) (left : List (List ℕ)) (before : List (ℕ × Entry)) (names : Table) (f : Follows start first lines n (line ∷ left) before names) where
  -- after a reply line
  pub reply_follows : is_reply line ≡ true → Follows start first lines (suc n) left before names
  reply_follows r = record {
    entries = λ es after x. f.entries es after (are_reply n names after line left es r x);
    others = λ at x. f.others at (other_reply n names line left at r x);
  }

  -- after an entry's line
  pub entry_follows : (e : Entry) (middle : Table) → is_reply line ≡ false → IsEntryLine names line e middle → Follows start first lines (suc n) left (before ++ (n, e) ∷ []) middle
  entry_follows e middle r x = record {
    entries = λ es after y. subst (λ (l : List (ℕ × Entry)). AreEntries start first lines l after) (sym (append_assoc before ((n, e) ∷ []) es)) (f.entries ((n, e) ∷ es) after (are_entry n names middle after line left e es r x y));
    others = λ at y. f.others at (other_entry n names middle line left e at r x y);
  }

  -- the first line that is neither
  pub other_here : is_reply line ≡ false → IsNoEntryLine names line → IsFirstOther start first lines n
  other_here r none = f.others n (other_first n names line left r none)

-- where no line is left
pub end_follows : (start : ℕ) (first : Table) (lines : List (List ℕ)) (n : ℕ) (before : List (ℕ × Entry)) (names : Table) → Follows start first lines n [] before names → AreEntries start first lines before names
end_follows start first lines n before names f = subst (λ (l : List (ℕ × Entry)). AreEntries start first lines l names) (append-nil before) (f.entries [] names (none_left n names))

-- ---- one line

-- the entry of a line is taken
pub takes_entry : (n : ℕ) (names : Table) (line : List ℕ) (before now : List (ℕ × Entry)) (o : Option Entry) (e : Entry) (after : Table) → is_reply line ≡ false → IsLineOf names line o after → o ≡ Some e → now ≡ before ++ (n, e) ∷ [] → Takes n names line before now after
takes_entry n names line before now o e after r x is items =
    let here : IsEntryLine names line e after = subst (λ (p : Option Entry). IsLineOf names line p after) is x in
    subst (λ (l : List (ℕ × Entry)). Takes n names line before l after) (sym items) (take_entry e after r here)

-- ---- the lines that are left

one_more : (start i : ℕ) → suc (i + start) ≡ i + 1 + start
one_more start i = omega arith

-- what the lines from this place on are, all lines are
abbrev pub FollowsAt : ℕ → Table → List ℕ → List Span → ℕ → List (ℕ × Entry) → Table → Type 0
FollowsAt start first bytes spans i before names = Follows start first (pieces bytes spans) (i + start) (pieces bytes (drop i spans)) before names

module _ (start : ℕ) (first : Table) (bytes : List ℕ) (spans : List Span) (i : ℕ) (before now : List (ℕ × Entry)) (names after : Table) (n : ℕ) (s : Span) (line : List ℕ) where
  abbrev left : List (List ℕ)
  left = pieces bytes (drop (i + 1) spans)

  line_here : FollowsAt start first bytes spans i before names → i < length spans → line ≡ slice_range bytes (slice_index_or spans i s).from (slice_index_or spans i s).to → Follows start first (pieces bytes spans) (i + start) (line ∷ left) before names
  line_here f lt l = subst (λ (ls : List (List ℕ)). Follows start first (pieces bytes spans) (i + start) ls before names) (pieces_more bytes spans i s line lt l) f

  takes_follow : (es : List (ℕ × Entry)) (t : Table) → Follows start first (pieces bytes spans) (i + start) (line ∷ left) before names → Takes (i + start) names line before es t → Follows start first (pieces bytes spans) (suc (i + start)) left es t
  takes_follow _ _ f (take_reply r) = reply_follows start first (pieces bytes spans) (i + start) line left before names f r
  takes_follow _ _ f (take_entry e t r x) = entry_follows start first (pieces bytes spans) (i + start) line left before names f e t r x

  -- after a line that is taken
  pub taken_follows : (b : Bool) → FollowsAt start first bytes spans i before names → i < length spans → line ≡ slice_range bytes (slice_index_or spans i s).from (slice_index_or spans i s).to → n ≡ i + start → TakesOrNot n names line before b now after → b ≡ true → FollowsAt start first bytes spans (i + 1) now after
  taken_follows b f lt l number x fits =
      let taken : Takes n names line before now after = subst (λ (y : Bool). TakesOrNot n names line before y now after) fits x in
      let here : Takes (i + start) names line before now after = subst (λ (k : ℕ). Takes k names line before now after) number taken in
      subst (λ (k : ℕ). Follows start first (pieces bytes spans) k left now after) (one_more start i) (takes_follow now after (line_here f lt l) here)

  -- at a line that isn't
  pub other_follows : (b : Bool) → FollowsAt start first bytes spans i before names → i < length spans → line ≡ slice_range bytes (slice_index_or spans i s).from (slice_index_or spans i s).to → n ≡ i + start → TakesOrNot n names line before b now after → b ≡ false → IsFirstOther start first (pieces bytes spans) n
  other_follows b f lt l number x misfits =
      let none : (is_reply line ≡ false) × IsNoEntryLine names line = subst (λ (y : Bool). TakesOrNot n names line before y now after) misfits x in
      subst (λ (k : ℕ). IsFirstOther start first (pieces bytes spans) k) (sym number) (other_here start first (pieces bytes spans) (i + start) line left before names (line_here f lt l) none.0 none.1)

-- where no line is left
pub all_taken : (start : ℕ) (first : Table) (bytes : List ℕ) (spans : List Span) (i : ℕ) (before : List (ℕ × Entry)) (names : Table) → FollowsAt start first bytes spans i before names → length spans ≤ i → AreEntries start first (pieces bytes spans) before names
all_taken start first bytes spans i before names f past =
    end_follows start first (pieces bytes spans) (i + start) before names
    (subst (λ (ls : List Span). Follows start first (pieces bytes spans) (i + start) (pieces bytes ls) before names) (drop_all i spans past) f)
