-- Each kind of step keeps the rule: open, split, push, pop, join.
use Rattle.std.proofs.Common.{◌≡◌, ◌≢◌, ◌⊎◌, ℕ, ◌+◌, ◌<◌, ◌≤◌, true, false, true≢false, List, [], ◌∷◌, ◌++◌, length, slice_set, refl, sym, ap, ◌∙◌, subst, inl, inr, ⊎_elim, arith, append_assoc}
use Rattle.std.specs.List.{All}
use Rattle.std.proofs.lemmas.List.Elements.{All-nil, All-push, All-weaker}
use mathlib.Core.Option.{some}
use lib.ListN.{get_elem?}
use Rattle.crossbeam_queue.specs.Fifo.{Pushes, Pops, Forks, Merges, Learns}
use Rattle.crossbeam_queue.proofs.Lists.{at_set, set_else}
use Rattle.ps_world.proofs.Elements.{at_end_or_before, at_only}
use Rattle.ps_hub.specs.declared.report.Report.{Report}
use Rattle.ps_hub.specs.declared.view.Note.{Note}
use Rattle.ps_hub.specs.declared.view.View.{View}
use Rattle.ps_hub.specs.Reports.{of, on, IsNumbered}
use Rattle.ps_hub.specs.Looks.{IsLearned}
use Rattle.ps_hub.specs.Rule.{HasNote, AreNoted, FitsDesk, FitsTray, Carries}
use Rattle.ps_hub.specs.Steps.{opener, dealer, newcomer, sending, getting, noting, spent, IsNext, ToldDesk, ToldTray}
use Rattle.ps_hub.proofs.Lists.{of_more, of_same, of_none, numbered_more, numbered_prefix}

-- ---- notes

-- what another performer sends leaves the notes right
noted_same : (made : ℕ) (all : List Report) (x : Report) (notes : List Note) → (HasNote x.by notes → ⊥) → AreNoted made all notes → AreNoted made (all ++ x ∷ []) notes
noted_same made all x [] unnoted are = tt
noted_same made all x (note ∷ notes) unnoted are = (
  are.0,
  are.1 ∙ sym (of_same note.by all x (λ same. unnoted (inl (sym same)))),
  are.2,
  noted_same made all x notes (λ has. unnoted (inr has)) are.3,
)

noted_wider : (made more : ℕ) (all : List Report) (notes : List Note) → made ≤ more → AreNoted made all notes → AreNoted more all notes
noted_wider made more all [] le are = tt
noted_wider made more all (note ∷ notes) le are = ((let d = are.0 in omega arith), are.1, are.2, noted_wider made more all notes le are.3)

note_dealt : (made by : ℕ) (all : List Report) (notes : List Note) → HasNote by notes → AreNoted made all notes → by < made
note_dealt made by all [] has are = absurd has
note_dealt made by all (note ∷ notes) has are =
    ⊎_elim (λ (same : note.by ≡ by). subst (λ b. b < made) same are.0) (λ (t : HasNote by notes). note_dealt made by all notes t are.3) has

-- ---- the views of a list in which one has changed

-- a view of the new list stands in the old one, with the same role, performer and notes
record Was (views : List View) (j : ℕ) (u : View) : Type 0 where
  pub old : View
  pub at : get_elem? views j ≡ some old
  pub sends_is : u.sends ≡ old.sends
  pub drains_is : u.drains ≡ old.drains
  pub by_is : u.by ≡ old.by
  pub notes_are : u.notes ≡ old.notes

was : (views : List View) (id : ℕ) (v w : View) → get_elem? views id ≡ some v → w.sends ≡ v.sends → w.drains ≡ v.drains → w.by ≡ v.by → w.notes ≡ v.notes
    → (j : ℕ) (u : View) → get_elem? (slice_set views id w) j ≡ some u → Was views j u
was views id v w at sends drains by notes j u here =
    ⊎_elim
    (λ (t : (j ≡ id) × (w ≡ u)). record {
      old = v;
      at = ap (λ k. get_elem? views k) t.0 ∙ at;
      sends_is = ap (λ (x : View). x.sends) (sym t.1) ∙ sends;
      drains_is = ap (λ (x : View). x.drains) (sym t.1) ∙ drains;
      by_is = ap (λ (x : View). x.by) (sym t.1) ∙ by;
      notes_are = ap (λ (x : View). x.notes) (sym t.1) ∙ notes;
    })
    (λ (t : (j ≢ id) × (get_elem? views j ≡ some u)). record { old = u; at = t.1; sends_is = refl; drains_is = refl; by_is = refl; notes_are = refl })
    (at_set views id j w u here)

-- ---- open

pub opens : Carries [] (opener ∷ [])
opens = record {
  seat = 0;
  made = 0;
  got = [];
  desks = λ id v at sends. absurd (true≢false (sym (ap (λ (x : View). x.sends) (at_only opener v id at).1 ∙ sends)));
  trays = λ id v at drains. subst (λ (x : View). FitsTray 0 0 [] [] id x) (at_only opener v id at).1 record { one = (at_only opener v id at).0; got_is = refl; made_is = refl; notes = tt };
  apart = λ i j v w at there sends also same. absurd (true≢false (sym (ap (λ (x : View). x.sends) (at_only opener v i at).1 ∙ sends)));
  noted = λ i j v w at there sends also has. absurd (true≢false (sym (ap (λ (x : View). x.sends) (at_only opener v i at).1 ∙ sends)));
  dealt = All-nil (λ (x : Report). x.by < 0);
  numbered = λ by r k d less. absurd (omega arith);
}

-- ---- push

pub pushes : (n id : ℕ) (v : View) (x : Report) → v.sends ≡ true → v.drains ≡ false → IsNext v.by v.sent x → Pushes Carries n id v x (λ w. w ≡ sending v x)
pushes n id v x sends drains next items views room c at =
    let w = sending v x in
    let all = c.got ++ items in
    let longer : c.got ++ (items ++ x ∷ []) ≡ all ++ x ∷ [] = sym (append_assoc c.got items (x ∷ [])) in
    let mine = c.desks id v at sends in
    let before = was views id v w at refl refl refl refl in (
      w,
      record {
        seat = c.seat;
        made = c.made;
        got = c.got;
        desks = λ j u here also. subst (λ l. FitsDesk c.made l u) (sym longer)
            (⊎_elim
            (λ (t : (j ≡ id) × (w ≡ u)). subst (λ (y : View). FitsDesk c.made (all ++ x ∷ []) y) t.1
            record { dealt = mine.dealt; own = ap (λ l. l ++ x ∷ []) mine.own ∙ sym (of_more v.by all x next.0) })
            (λ (t : (j ≢ id) × (get_elem? views j ≡ some u)).
            let theirs = c.desks j u t.1 also in
            record { dealt = theirs.dealt; own = theirs.own ∙ sym (of_same u.by all x (λ same. t.0 (c.apart j id u v t.1 at also sends (sym same ∙ next.0)))) })
            (at_set views id j w u here));
        trays = λ j u here also. subst (λ l. FitsTray c.seat c.made c.got l j u) (sym longer)
            (⊎_elim
            (λ (t : (j ≡ id) × (w ≡ u)). absurd (true≢false (sym also ∙ (ap (λ (y : View). y.drains) (sym t.1) ∙ drains))))
            (λ (t : (j ≢ id) × (get_elem? views j ≡ some u)).
            let f = c.trays j u t.1 also in
            record {
              one = f.one;
              got_is = f.got_is;
              made_is = f.made_is;
              notes = noted_same c.made all x u.notes (λ has. c.noted id j v u at t.1 sends also (subst (λ b. HasNote b u.notes) next.0 has)) f.notes;
            })
            (at_set views id j w u here));
        apart = λ i j a b here there some_sends other_sends same.
            let p = before i a here in
            let q = before j b there in
            c.apart i j p.old q.old p.at q.at (sym p.sends_is ∙ some_sends) (sym q.sends_is ∙ other_sends) (sym p.by_is ∙ (same ∙ q.by_is));
        noted = λ i j a b here there some_sends other_drains has.
            let p = before i a here in
            let q = before j b there in
            c.noted i j p.old q.old p.at q.at (sym p.sends_is ∙ some_sends) (sym q.drains_is ∙ other_drains)
            (subst (λ n. HasNote n q.old.notes) p.by_is (subst (λ ns. HasNote a.by ns) q.notes_are has));
        dealt = subst (All (λ y. y.by < c.made)) (sym longer) (All-push (λ (y : Report). y.by < c.made) all x c.dealt (subst (λ b. b < c.made) (sym next.0) mine.dealt));
        numbered = subst IsNumbered (sym longer)
            (numbered_more all x c.numbered (next.1 ∙ (ap (λ l. length (on x.r l)) mine.own ∙ ap (λ b. length (on x.r (of b all))) (sym next.0))));
      },
      refl,
    )

-- ---- pop

pub pops : (id : ℕ) (v : View) → v.sends ≡ false → v.drains ≡ true → Pops Carries id v (λ x w. (w ≡ getting v x) × IsNumbered (v.got ++ x ∷ []))
pops id v sends drains x items views c at =
    let w = getting v x in
    let mine = c.trays id v at drains in
    let moved : c.got ++ x ∷ items ≡ (c.got ++ x ∷ []) ++ items = sym (append_assoc c.got (x ∷ []) items) in
    let before = was views id v w at refl refl refl refl in (
      w,
      record {
        seat = c.seat;
        made = c.made;
        got = c.got ++ x ∷ [];
        desks = λ j u here also. subst (λ l. FitsDesk c.made l u) moved
            (⊎_elim
            (λ (t : (j ≡ id) × (w ≡ u)). absurd (true≢false (sym also ∙ (ap (λ (y : View). y.sends) (sym t.1) ∙ sends))))
            (λ (t : (j ≢ id) × (get_elem? views j ≡ some u)). c.desks j u t.1 also)
            (at_set views id j w u here));
        trays = λ j u here also.
            ⊎_elim
            (λ (t : (j ≡ id) × (w ≡ u)). subst (λ (y : View). FitsTray c.seat c.made (c.got ++ x ∷ []) ((c.got ++ x ∷ []) ++ items) j y) t.1
            record { one = t.0 ∙ mine.one; got_is = ap (λ l. l ++ x ∷ []) mine.got_is; made_is = mine.made_is; notes = subst (λ l. AreNoted c.made l v.notes) moved mine.notes })
            (λ (t : (j ≢ id) × (get_elem? views j ≡ some u)). absurd (t.0 ((c.trays j u t.1 also).one ∙ sym mine.one)))
            (at_set views id j w u here);
        apart = λ i j a b here there some_sends other_sends same.
            let p = before i a here in
            let q = before j b there in
            c.apart i j p.old q.old p.at q.at (sym p.sends_is ∙ some_sends) (sym q.sends_is ∙ other_sends) (sym p.by_is ∙ (same ∙ q.by_is));
        noted = λ i j a b here there some_sends other_drains has.
            let p = before i a here in
            let q = before j b there in
            c.noted i j p.old q.old p.at q.at (sym p.sends_is ∙ some_sends) (sym q.drains_is ∙ other_drains)
            (subst (λ n. HasNote n q.old.notes) p.by_is (subst (λ ns. HasNote a.by ns) q.notes_are has));
        dealt = subst (All (λ y. y.by < c.made)) moved c.dealt;
        numbered = subst IsNumbered moved c.numbered;
      },
      (refl, subst (λ l. IsNumbered (l ++ x ∷ [])) (sym mine.got_is) (numbered_prefix (c.got ++ x ∷ []) items (subst IsNumbered moved c.numbered))),
    )

-- ---- split

pub forks : (id : ℕ) (v : View) → v.sends ≡ false → v.drains ≡ true → Forks Carries id v (dealer v) (newcomer v)
forks id v sends drains items views c at =
    let vs = slice_set views id (dealer v) in
    let all = c.got ++ items in
    let mine = c.trays id v at drains in
    let before = was views id v (dealer v) at refl refl refl refl in
    let next : c.made ≡ v.made = sym mine.made_is in record {
      seat = c.seat;
      made = c.made + 1;
      got = c.got;
      desks = λ j u here also.
          ⊎_elim
          (λ (t : get_elem? vs j ≡ some u).
          ⊎_elim
          (λ (q : (j ≡ id) × (dealer v ≡ u)). absurd (true≢false (sym also ∙ (ap (λ (y : View). y.sends) (sym q.1) ∙ sends))))
          (λ (q : (j ≢ id) × (get_elem? views j ≡ some u)). let f = c.desks j u q.1 also in record { dealt = let d = f.dealt in omega arith; own = f.own })
          (at_set views id j (dealer v) u t))
          (λ (t : (j ≡ length vs) × (newcomer v ≡ u)). subst (λ (y : View). FitsDesk (c.made + 1) all y) t.1
          record { dealt = omega arith; own = sym (of_none v.made all (subst (λ m. All (λ (y : Report). y.by < m) all) next c.dealt)) })
          (at_end_or_before vs (newcomer v) u j here);
      trays = λ j u here also.
          ⊎_elim
          (λ (t : get_elem? vs j ≡ some u).
          ⊎_elim
          (λ (q : (j ≡ id) × (dealer v ≡ u)). subst (λ (y : View). FitsTray c.seat (c.made + 1) c.got all j y) q.1
          record { one = q.0 ∙ mine.one; got_is = mine.got_is; made_is = ap (λ n. n + 1) mine.made_is; notes = noted_wider c.made (c.made + 1) all v.notes (omega arith) mine.notes })
          (λ (q : (j ≢ id) × (get_elem? views j ≡ some u)). absurd (q.0 ((c.trays j u q.1 also).one ∙ sym mine.one)))
          (at_set views id j (dealer v) u t))
          (λ (t : (j ≡ length vs) × (newcomer v ≡ u)). absurd (true≢false (sym also ∙ ap (λ (y : View). y.drains) (sym t.1))))
          (at_end_or_before vs (newcomer v) u j here);
      apart = λ i j a b here there some_sends other_sends same.
          ⊎_elim
          (λ (x : get_elem? vs i ≡ some a).
          let p = before i a x in
          let f = c.desks i p.old p.at (sym p.sends_is ∙ some_sends) in
          ⊎_elim
          (λ (y : get_elem? vs j ≡ some b).
          let q = before j b y in
          c.apart i j p.old q.old p.at q.at (sym p.sends_is ∙ some_sends) (sym q.sends_is ∙ other_sends) (sym p.by_is ∙ (same ∙ q.by_is)))
          (λ (y : (j ≡ length vs) × (newcomer v ≡ b)).
          let n : v.made ≡ b.by = ap (λ (z : View). z.by) y.1 in let d = f.dealt in let e = p.by_is in absurd (omega arith))
          (at_end_or_before vs (newcomer v) b j there))
          (λ (x : (i ≡ length vs) × (newcomer v ≡ a)).
          let n : v.made ≡ a.by = ap (λ (z : View). z.by) x.1 in
          ⊎_elim
          (λ (y : get_elem? vs j ≡ some b).
          let q = before j b y in
          let f = c.desks j q.old q.at (sym q.sends_is ∙ other_sends) in let d = f.dealt in let e = q.by_is in absurd (omega arith))
          (λ (y : (j ≡ length vs) × (newcomer v ≡ b)). x.0 ∙ sym y.0)
          (at_end_or_before vs (newcomer v) b j there))
          (at_end_or_before vs (newcomer v) a i here);
      noted = λ i j a b here there some_sends other_drains has.
          ⊎_elim
          (λ (y : get_elem? vs j ≡ some b).
          let q = before j b y in
          let old_has : HasNote a.by q.old.notes = subst (λ ns. HasNote a.by ns) q.notes_are has in
          ⊎_elim
          (λ (x : get_elem? vs i ≡ some a).
          let p = before i a x in
          c.noted i j p.old q.old p.at q.at (sym p.sends_is ∙ some_sends) (sym q.drains_is ∙ other_drains) (subst (λ n. HasNote n q.old.notes) p.by_is old_has))
          (λ (x : (i ≡ length vs) × (newcomer v ≡ a)).
          let n : v.made ≡ a.by = ap (λ (z : View). z.by) x.1 in
          let d = note_dealt c.made a.by all q.old.notes old_has (c.trays j q.old q.at (sym q.drains_is ∙ other_drains)).notes in
          absurd (omega arith))
          (at_end_or_before vs (newcomer v) a i here))
          (λ (y : (j ≡ length vs) × (newcomer v ≡ b)). absurd (true≢false (sym other_drains ∙ ap (λ (z : View). z.drains) (sym y.1))))
          (at_end_or_before vs (newcomer v) b j there);
      dealt = All-weaker (λ (y : Report). y.by < c.made) (λ (y : Report). y.by < c.made + 1) (λ y less. omega arith) all c.dealt;
      numbered = c.numbered;
    }

-- ---- join

-- a view after the join that sends or drains stood there before, with the same role and performer, and is not the one that was joined
record Stayed (views : List View) (other : ℕ) (w : View) (j : ℕ) (u : View) : Type 0 where
  pub old : View
  pub at : get_elem? views j ≡ some old
  pub sends_is : u.sends ≡ old.sends
  pub drains_is : u.drains ≡ old.drains
  pub by_is : u.by ≡ old.by
  pub away : j ≢ other
  pub notes : (by : ℕ) → HasNote by u.notes → (w.by ≡ by) ⊎ HasNote by old.notes

stayed : (views : List View) (id other : ℕ) (v w : View) → get_elem? views id ≡ some v → id ≢ other
    → (j : ℕ) (u : View) → get_elem? (slice_set (slice_set views id (noting v w)) other spent) j ≡ some u → (u.sends ≡ true) ⊎ (u.drains ≡ true) → Stayed views other w j u
stayed views id other v w at two j u here live =
    ⊎_elim
    (λ (t : (j ≡ other) × (spent ≡ u)).
    absurd (⊎_elim (λ (s : u.sends ≡ true). true≢false (sym s ∙ ap (λ (x : View). x.sends) (sym t.1))) (λ (d : u.drains ≡ true). true≢false (sym d ∙ ap (λ (x : View). x.drains) (sym t.1))) live))
    (λ (t : (j ≢ other) × (get_elem? (slice_set views id (noting v w)) j ≡ some u)).
    ⊎_elim
    (λ (q : (j ≡ id) × (noting v w ≡ u)). record {
      old = v;
      at = ap (λ k. get_elem? views k) q.0 ∙ at;
      sends_is = ap (λ (x : View). x.sends) (sym q.1);
      drains_is = ap (λ (x : View). x.drains) (sym q.1);
      by_is = ap (λ (x : View). x.by) (sym q.1);
      away = t.0;
      notes = λ by has. subst (λ (x : View). HasNote by x.notes) (sym q.1) has;
    })
    (λ (q : (j ≢ id) × (get_elem? views j ≡ some u)). record { old = u; at = q.1; sends_is = refl; drains_is = refl; by_is = refl; away = t.0; notes = λ by has. inr has })
    (at_set views id j (noting v w) u t.1))
    (at_set (slice_set views id (noting v w)) other j spent u here)

pub merges : (id other : ℕ) (v w : View) → v.sends ≡ false → v.drains ≡ true → w.sends ≡ true → Merges Carries id v other w (noting v w) spent
merges id other v w sends drains also items views c at two there' =
    let vs = slice_set views id (noting v w) in
    let all = c.got ++ items in
    let there : get_elem? views other ≡ some w = sym (set_else views id other (noting v w) two) ∙ there' in
    let mine = c.trays id v at drains in
    let theirs = c.desks other w there also in
    let from = stayed views id other v w at (λ e. two (sym e)) in record {
      seat = c.seat;
      made = c.made;
      got = c.got;
      desks = λ j u here some_sends.
          ⊎_elim
          (λ (t : (j ≡ other) × (spent ≡ u)). absurd (true≢false (sym some_sends ∙ ap (λ (x : View). x.sends) (sym t.1))))
          (λ (t : (j ≢ other) × (get_elem? vs j ≡ some u)).
          ⊎_elim
          (λ (q : (j ≡ id) × (noting v w ≡ u)). absurd (true≢false (sym some_sends ∙ (ap (λ (x : View). x.sends) (sym q.1) ∙ sends))))
          (λ (q : (j ≢ id) × (get_elem? views j ≡ some u)). c.desks j u q.1 some_sends)
          (at_set views id j (noting v w) u t.1))
          (at_set vs other j spent u here);
      trays = λ j u here some_drains.
          ⊎_elim
          (λ (t : (j ≡ other) × (spent ≡ u)). absurd (true≢false (sym some_drains ∙ ap (λ (x : View). x.drains) (sym t.1))))
          (λ (t : (j ≢ other) × (get_elem? vs j ≡ some u)).
          ⊎_elim
          (λ (q : (j ≡ id) × (noting v w ≡ u)). subst (λ (x : View). FitsTray c.seat c.made c.got all j x) q.1
          record { one = q.0 ∙ mine.one; got_is = mine.got_is; made_is = mine.made_is; notes = (theirs.dealt, theirs.own, (λ has. c.noted other id w v there at also drains has), mine.notes) })
          (λ (q : (j ≢ id) × (get_elem? views j ≡ some u)). c.trays j u q.1 some_drains)
          (at_set views id j (noting v w) u t.1))
          (at_set vs other j spent u here);
      apart = λ i j a b here over some_sends other_sends same.
          let x = from i a here (inl some_sends) in
          let y = from j b over (inl other_sends) in
          c.apart i j x.old y.old x.at y.at (sym x.sends_is ∙ some_sends) (sym y.sends_is ∙ other_sends) (sym x.by_is ∙ (same ∙ y.by_is));
      noted = λ i j a b here over some_sends other_drains has.
          let x = from i a here (inl some_sends) in
          let y = from j b over (inr other_drains) in
          let real = sym x.sends_is ∙ some_sends in
          ⊎_elim
          (λ (same : w.by ≡ a.by). x.away (c.apart i other x.old w x.at there real also (sym x.by_is ∙ sym same)))
          (λ (t : HasNote a.by y.old.notes). c.noted i j x.old y.old x.at y.at real (sym y.drains_is ∙ other_drains) (subst (λ n. HasNote n y.old.notes) x.by_is t))
          (y.notes a.by has);
      dealt = c.dealt;
      numbered = c.numbered;
    }

-- ---- what is learned

pub told_desk : (id : ℕ) (v : View) → v.sends ≡ true → Learns Carries id v (ToldDesk v)
told_desk id v sends items views c at = record { got = c.got; own = (c.desks id v at sends).own; numbered = c.numbered }

pub told_tray : (id : ℕ) (v : View) → v.drains ≡ true → Learns Carries id v (ToldTray v)
told_tray id v drains items views c at =
    let f = c.trays id v at drains in
    let same : c.got ++ items ≡ v.got ++ items = ap (λ l. l ++ items) (sym f.got_is) in record {
      notes = subst (λ l. AreNoted v.made l v.notes) same (subst (λ m. AreNoted m (c.got ++ items) v.notes) (sym f.made_is) f.notes);
      dealt = subst (All (λ x. x.by < v.made)) same (subst (λ m. All (λ (x : Report). x.by < m) (c.got ++ items)) (sym f.made_is) c.dealt);
      numbered = subst IsNumbered same c.numbered;
    }

-- beside what may be learned of the reports on any belt
pub seen_desk : (fact : List Report → Type 0) (id : ℕ) (v : View) → IsLearned fact → v.sends ≡ true → Learns Carries id v (λ items. ToldDesk v items × fact items)
seen_desk fact id v learned sends items views c at = (told_desk id v sends items views c at, learned items views c)

pub seen_tray : (fact : List Report → Type 0) (id : ℕ) (v : View) → IsLearned fact → v.drains ≡ true → Learns Carries id v (λ items. ToldTray v items × fact items)
seen_tray fact id v learned drains items views c at = (told_tray id v drains items views c at, learned items views c)
