-- A piece, run by run: what was printed and what is to be printed stays the same.
use mathlib.Core.Path.{◌≡◌, refl, sym, ap, ◌∙◌}
use mathlib.Core.List.{List, [], ◌∷◌, ◌++◌, append_assoc}
use Prim.Native.Nat.{ℕ, zero, suc, ◌+◌, ◌-◌, ◌≤◌, ◌<◌}
use native.Mathlib.Numerals.{add-one}
use native.Mathlib.Omega.{arith}
use mir.Syntax.{w64}
use mir.Val.{Fits}
use lib.ListN.{length, take, drop, length-append, length-take, length-drop}
use lib.Seq.{length-take-le, sets-eq, length-sets, take_at, take-append-add, drop-drop}
use lib.Dec.{ltb}
use borrow.Author.Tests.{ltb-true, ltb-false}
use Rattle.base_lists.proofs.Bools.{by}
use Rattle.rules.specs.Meaning.{Meaning}
use Rattle.rules.specs.Pairs.{pair_line, text_of}
use Rattle.order_keys.specs.Writing.{Puts}
use Rattle.pairs_printing.specs.Printed.{Prints}
use Rattle.pairs_report.specs.Feeding.{report_from, ended_line, left, plain, TakesRun, Ready, Feeds, FeedsRun, FeedsAll}
use Rattle.pairs_report.specs.declared.Run.{Run}
use Rattle.pairs_report.specs.declared.Fed.{Fed}
use Rattle.pairs_report.proofs.RunLaws.{plain-short, plain-split, plain-ended}
use Rattle.pairs_report.proofs.ReportLaws.{report-cap, report-run, report-feed, report-none, report-last}

-- what was put stands behind what stood before it
pub puts-take : {room : List ℕ} {at : ℕ} {bytes after : List ℕ} {next : ℕ} → Puts room at bytes after next → at + length bytes ≤ length room
    → take next after ≡ take at room ++ bytes
puts-take {room} {at} {bytes} {after} {next} p h =
    let front : List ℕ = take at room ++ bytes in
    let behind : List ℕ = drop (at + length bytes) room in
    let whole : after ≡ front ++ behind = p.is ∙ sets-eq bytes room at h in
    let long : length front ≡ next = length-append (take at room) bytes ∙ omega (arith, length-take-le at room (omega arith), p.to) in
    ap (take next) whole ∙ take_at front behind next long

-- ## end_text

ended-pair : (m : Meaning) (area : List ℕ) (texts : ℕ) (last text : List ℕ) → (texts ≡ 0 → ⊥)
    → ended_line m area texts last text ≡ pair_line m texts (text_of area last) (text_of area text)
unfolding ended_line
ended-pair m area zero last text h = absurd (h refl)
ended-pair m area (suc n) last text h = refl

module _ (m : Meaning) (area : List ℕ) (texts : ℕ) (last text : List ℕ) where
  pub end_none : (room : List ℕ) (at : ℕ) → texts ≡ 0 → Prints 80 room at (ended_line m area texts last text) room at
  unfolding ended_line
  end_none room at e = rw e (record { puts = record { is = refl; to = omega arith }; short = omega arith })

  pub end-pair : {room after : List ℕ} {at next : ℕ} → (texts ≡ 0 → ⊥) → Prints 80 room at (pair_line m texts (text_of area last) (text_of area text)) after next
      → Prints 80 room at (ended_line m area texts last text) after next
  end-pair h p = rw (ended-pair m area texts last text h) p

-- ## finish

module _ (m : Meaning) (area : List ℕ) (f : Fed) (before current : List ℕ) where
  pub finish-none : (room : List ℕ) → f.len ≡ 0 → Prints 80 room 0 (left m area f before current []) room 0
  finish-none room e = rw (e, report-none m area f.texts (take f.last before)) (record { puts = record { is = refl; to = omega arith }; short = omega arith })

  pub finish-last : {room after : List ℕ} {next : ℕ} → (f.len ≡ 0 → ⊥) → f.len ≤ length current
      → Prints 80 room 0 (ended_line m area f.texts (take f.last before) (take f.len current)) after next
      → Prints 80 room 0 (left m area f before current []) after next
  finish-last h k p =
      let l : length (take f.len current) ≡ f.len = length-take-le f.len current k in
      rw (report-last m area f.texts (take f.last before) (take f.len current) (λ e. h (sym l ∙ e))) p

-- ## feed_run

pub run_length : {piece : List ℕ} {from : ℕ} {current : List ℕ} {len : ℕ} {current' : List ℕ} {r : Run} → TakesRun piece from current len current' r
    → r.len ≡ length (take r.len current')
run_length {current' = current'} {r} v = sym (length-take-le r.len current' v.inside)

module _ {piece before current out : List ℕ} {f : Fed} (ready : Ready piece f before current out) {current' : List ℕ} {r : Run}
    (v : TakesRun piece f.at current f.len current' r) where
  line : List ℕ
  line = plain (drop f.at piece)

  pub run_long : length current' ≡ 4097
  unfolding line
  run_long = ap length v.puts.is ∙ length-sets current f.len (take (length current - f.len) line) ∙ ready.current-room

  pub run_len : r.len ≤ 4097
  run_len = omega (arith, v.inside, run_long)

  pub run_room : 0 + length (take r.len current') ≤ length before
  run_room = omega (arith, length-take-le r.len current' v.inside, run_len, ready.before-room)

  pub run_inside : r.at ≤ length piece
  unfolding line
  run_inside = omega (arith, ready.at, v.to, plain-short (drop f.at piece), length-drop f.at piece)

  pub run-from : f.at ≤ r.at
  run-from = omega (arith, v.to)

  -- the text with the run behind it, as far as it is kept
  run-kept : take r.len current' ≡ take 4097 (take f.len current ++ line)
  unfolding line
  run-kept =
      let k : ℕ = length current - f.len in
      let text : List ℕ = take f.len current in
      let short : length (take k line) ≤ k = omega (arith, length-take k line) in
      let l : length text ≡ f.len = length-take-le f.len current (omega (arith, ready.len, ready.current-room)) in
      let e : length text + k ≡ 4097 = omega (arith, l, ready.len, ready.current-room) in
      puts-take v.puts (omega (arith, short, ready.len, ready.current-room)) ∙ sym (take-append-add text line k)
      ∙ ap (λ (n : ℕ). take n (text ++ line)) e

  run-same : (m : Meaning) (area rest : List ℕ) → left m area f before current (drop f.at piece ++ rest)
      ≡ report_from m area f.texts (take f.last before) (take r.len current') (drop r.at piece ++ rest)
  unfolding line
  run-same m area rest =
      let xs : List ℕ = drop f.at piece in
      let last : List ℕ = take f.last before in
      let text : List ℕ = take f.len current in
      let behind : List ℕ = drop r.at piece in
      let e : drop (length line) xs ≡ behind = drop-drop (length line) f.at piece ∙ ap (λ (n : ℕ). drop n piece) (sym v.to) in
      let parts : xs ++ rest ≡ line ++ (behind ++ rest) =
      ap (λ (ys : List ℕ). ys ++ rest) (plain-split xs ∙ ap (λ (ys : List ℕ). line ++ ys) e) ∙ append_assoc line behind rest in
      ap (report_from m area f.texts last text) parts ∙ report-run m area f.texts last text xs (behind ++ rest)
      ∙ sym (report-cap m area f.texts last (text ++ line) (behind ++ rest))
      ∙ ap (λ (x : List ℕ). report_from m area f.texts last x (behind ++ rest)) (sym run-kept)

  -- no LF: the text stays open
  pub fed-part : (m : Meaning) (area : List ℕ) → f.at < length piece → length piece ≤ r.at
      → FeedsRun m area piece f before current out (record { at = r.at; used = f.used; texts = f.texts; last = f.last; len = r.len }) before current' out
  fed-part m area h k = record {
    fed = record {
      same = λ rest. ap (λ (x : List ℕ). take f.used out ++ x) (run-same m area rest);
      ready = record {
        at = run_inside;
        used = ready.used;
        before-room = ready.before-room;
        current-room = run_long;
        last = ready.last;
        len = run_len;
        few = omega (arith, ready.few, run-from, run_inside);
      };
      forward = run-from;
      counted = omega (arith, run-from);
    };
    goes = omega arith;
  }

  module _ (h : r.at < length piece) where
    -- LF stands behind the run
    run-feed : (rest : List ℕ) → drop r.at piece ++ rest ≡ 10 ∷ (drop (r.at + 1) piece ++ rest)
    unfolding line
    run-feed rest =
        let xs : List ℕ = drop f.at piece in
        let n : ℕ = length line in
        let at : drop n xs ≡ drop r.at piece = drop-drop n f.at piece ∙ ap (λ (k : ℕ). drop k piece) (sym v.to) in
        let k : f.at + suc n ≡ r.at + 1 = omega (arith, v.to) in
        let next : drop (suc n) xs ≡ drop (r.at + 1) piece = drop-drop (suc n) f.at piece ∙ ap (λ (j : ℕ). drop j piece) k in
        let inside : n < length xs = omega (arith, v.to, length-drop f.at piece) in
        ap (λ (ys : List ℕ). ys ++ rest) (sym at ∙ plain-ended xs inside ∙ ap (λ (ys : List ℕ). 10 ∷ ys) next)

    pub feed-room : Fits w64 (f.texts + 1)
    feed-room = omega (arith, ready.few, run-from)

    module _ (m : Meaning) (area : List ℕ) {before' out' : List ℕ} {used last : ℕ} (u : f.used + 80 ≤ length out) (o : length out' ≡ length out)
        (p : Prints 80 out f.used (ended_line m area f.texts (take f.last before) (take r.len current')) out' used)
        (q : Puts before 0 (take r.len current') before' last) where
      text-long : length (take r.len current') ≡ r.len
      text-long = length-take-le r.len current' v.inside

      printed : take used out' ≡ take f.used out ++ ended_line m area f.texts (take f.last before) (take r.len current')
      printed = puts-take p.puts (omega (arith, p.puts.to, p.short))

      kept-last : take last before' ≡ take r.len current'
      kept-last = puts-take q (omega (arith, text-long, run_len, ready.before-room))

      -- LF: the text has ended
      pub fed-line : FeedsRun m area piece f before current out (record { at = r.at + 1; used = used; texts = f.texts + 1; last = last; len = 0 }) before' current' out'
      fed-line = record {
        fed = record {
          same = λ rest.
              let text : List ℕ = take r.len current' in
              let bs : List ℕ = drop (r.at + 1) piece ++ rest in
              let shown : List ℕ = take f.used out in
              let ended : List ℕ = ended_line m area f.texts (take f.last before) text in
              ap (λ (x : List ℕ). shown ++ x) (run-same m area rest ∙ ap (report_from m area f.texts (take f.last before) text) (run-feed rest)
              ∙ report-feed m area f.texts (take f.last before) text bs)
              ∙ sym (append_assoc shown ended (report_from m area (suc f.texts) text [] bs))
              ∙ rw (sym printed, sym kept-last, add-one f.texts) refl;
          ready = record {
            at = omega arith;
            used = omega (arith, p.short);
            before-room = ap length q.is ∙ length-sets before 0 (take r.len current') ∙ ready.before-room;
            current-room = run_long;
            last = omega (arith, q.to, text-long, run_len);
            len = omega arith;
            few = omega (arith, ready.few, run-from);
          };
          forward = omega (arith, run-from);
          counted = omega (arith, run-from);
        };
        goes = omega (arith, run-from);
      }

-- ## feed

pub feeding-less : {m : Meaning} {area piece : List ℕ} {g : Fed} {before current out : List ℕ} {g' : Fed} {before' current' out' : List ℕ}
    → g.at < length piece → FeedsRun m area piece g before current out g' before' current' out' → length piece - g'.at < length piece - g.at
feeding-less h w = omega (arith, w.goes)

-- nothing is printed before a byte is taken
pub record Feeding (m : Meaning) (area piece : List ℕ) (f : Fed) (before₀ current₀ out₀ : List ℕ) (g : Fed) (before current out : List ℕ) : Type 0 where
  pub fed : Feeds m area piece f before₀ current₀ out₀ g before current out
  pub still : g.at ≤ f.at → g.used ≤ f.used
  pub before-long : length before ≡ length before₀
  pub current-long : length current ≡ length current₀
  pub long : length out ≡ length out₀

pub feeding-none : (m : Meaning) (area : List ℕ) {piece : List ℕ} {f : Fed} {before current out : List ℕ} → Ready piece f before current out
    → Feeding m area piece f before current out f before current out
feeding-none m area ready = record {
  fed = record { same = λ rest. refl; ready = ready; forward = omega arith; counted = omega arith };
  still = λ h. omega arith;
  before-long = refl;
  current-long = refl;
  long = refl;
}

module _ {m : Meaning} {area piece : List ℕ} {f : Fed} {before₀ current₀ out₀ : List ℕ} {g : Fed} {before current out : List ℕ}
    (v : Feeding m area piece f before₀ current₀ out₀ g before current out) where
  pub feeding-ready : Ready piece g before current out
  feeding-ready = v.fed.ready

  pub feeding-used : g.used ≤ length out
  feeding-used = v.fed.ready.used

  pub feeding-room : 80 ≤ length out - g.used → g.used + 80 ≤ length out
  feeding-room h = omega (arith, v.fed.ready.used)

  pub feeding-more : {g' : Fed} {before' current' out' : List ℕ} → length before' ≡ length before → length current' ≡ length current
      → length out' ≡ length out → FeedsRun m area piece g before current out g' before' current' out' → Feeding m area piece f before₀ current₀ out₀ g' before' current' out'
  feeding-more i j l w = record {
    fed = record {
      same = λ rest. v.fed.same rest ∙ w.fed.same rest;
      ready = w.fed.ready;
      forward = omega (arith, v.fed.forward, w.goes);
      counted = omega (arith, v.fed.counted, w.fed.counted);
    };
    still = λ h. absurd (omega (arith, v.fed.forward, w.goes));
    before-long = i ∙ v.before-long;
    current-long = j ∙ v.current-long;
    long = l ∙ v.long;
  }

  pub feeding-full : g.at < length piece → length out - g.used < 80 → FeedsAll m area piece f before₀ current₀ out₀ g before current out
  feeding-full h k = record {
    fed = v.fed;
    goes = λ i j. by (ltb f.at g.at) (λ t. ltb-true f.at g.at t)
        (λ t. absurd (omega (arith, v.still (ltb-false f.at g.at t), v.long)));
    stops = λ i. omega (arith, v.fed.ready.used);
  }

  pub feeding-all : length piece ≤ g.at → FeedsAll m area piece f before₀ current₀ out₀ g before current out
  feeding-all h = record { fed = v.fed; goes = λ i j. omega arith; stops = λ i. absurd (omega arith) }
