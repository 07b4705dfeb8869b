-- The next tree of a part, the counts and links as they are read, and the part that they make with the trees.
use Prim.Native.Nat.{ℕ, suc, ◌+◌, ◌-◌, ◌≤◌, ◌<◌}
use mathlib.Core.Path.{◌≡◌, refl, sym, ap, ◌∙◌}
use mathlib.Core.Bool.{Bool}
use mathlib.Core.List.{List, [], ◌∷◌, ◌++◌, map, map-append}
use native.Mathlib.Omega.{arith}
use native.Mathlib.Decide.{ℕ_discrete, dec_lt}
use borrow.Author.Tests.{eq-eqb, ne_eqb}
use lib.Dec.{eqb}
use lib.ListN.{length, get_or, set, take, drop, replicate, length-drop, length-append, length-map}
use lib.Seq.{take_all, get_or-set_same, get_or-set_other, set_out}
use Rattle.bits.specs.declared.Cursor.{Cursor}
use Rattle.bits.specs.Bits.{place_of, bytes_to, filled_at}
use Rattle.bits.proofs.Whole.{fills_says}
use Rattle.fields.specs.declared.Fault.{Fault}
use Rattle.fields.specs.Answer.{Answer, refused_in, success, in_item, ◌>>=◌}
use Rattle.fields.specs.Reading.{Scan, At, Refused, start, times, free, within, field, filled}
use Rattle.fields.proofs.Laws.{tailed_wanted}
use Rattle.fields.proofs.Readers.{keeps_times}
use Rattle.sheets_rules.specs.Model.{Tree}
use Rattle.sheets_rules.specs.TreeSheet.{tree_to}
use Rattle.sheets_rules.specs.Report.{tree_number}
use Rattle.sheets_rules.specs.Inside.Layout.{padded}
use Rattle.sheets_rules.proofs.Laid.{blank_at, padded_more}
use Rattle.part_rules.specs.Part.{Link, Part}
use Rattle.part_rules.specs.PartSheet.{tree_count_width, link_count_width, trees_most, link, counts}
use Rattle.part_rules.specs.PartRead.{link_number, sheet_read, trees_from, links_judged, after_counts, part}
use Rattle.part_read.specs.declared.LinkRecord.{LinkRecord}
use Rattle.part_read.specs.Inside.Promises.{no_link, link_laid, SmallLink, SmallLinks, LinkLaid, LinksLaid}

-- The bytes from one of them on, as the code takes them.
pub whole : (s : List ℕ) (first : ℕ) → take (length s - first) (drop first s) ≡ drop first s
whole s first = take_all (length s - first) (drop first s) (omega (arith, length-drop first s))

-- ---- the next tree

module _ (before : List Tree) (left : ℕ) (s : List ℕ) (last : Bool) (e : eqb left 0 ≡ last) where
  abbrev from : Bool → Scan → Answer (List Tree)
  from b q = in_item (length before) (sheet_read tree_number ((tree_to b s start).0, q)) >>= (λ x. trees_from (before ++ (x.0 ∷ [])) left (drop x.1 s))

  opens : (q : Scan) → (tree_to last s start).1 ≡ q → trees_from before (suc left) s ≡ from last q
  unfolding trees_from
  opens q k = ap (λ (b : Bool). from b (tree_to b s start).1) e ∙ ap (from last) k

  pub tree_next : (c : Cursor) → (tree_to last s start).1 ≡ At c → trees_from before (suc left) s ≡ trees_from (before ++ ((tree_to last s start).0 ∷ [])) left (drop (bytes_to (place_of c)) s)
  unfolding in_item sheet_read ◌>>=◌
  tree_next c k = opens (At c) k

  pub tree_stops : (f : Fault) (p : ℕ) → (tree_to last s start).1 ≡ Refused f p → trees_from before (suc left) s ≡ refused_in (length before) (tree_number f) p
  unfolding in_item sheet_read ◌>>=◌
  tree_stops f p k = opens (Refused f p) k

-- The last tree is the one after which none is left.
pub last_left : (k count : ℕ) → k < count → eqb (count - (k + 1)) 0 ≡ eqb (k + 1) count
last_left k count h = go (ℕ_discrete (k + 1) count)
  where
    go : Dec (k + 1 ≡ count) → eqb (count - (k + 1)) 0 ≡ eqb (k + 1) count
    go (yes e) = eq-eqb (count - (k + 1)) 0 (omega arith) ∙ sym (eq-eqb (k + 1) count e)
    go (no e) = ne_eqb (count - (k + 1)) 0 (λ z. e (omega arith)) ∙ sym (ne_eqb (k + 1) count e)

-- ---- the counts and the links

-- Numbers that are small stay so, with one link more.
small_blank : SmallLink no_link
small_blank = record { reading = omega arith; node = omega arith; driving = omega arith }

pub small_none : SmallLinks (replicate 255 no_link)
small_none k = rw (blank_at 255 k no_link) small_blank

pub small_more : (l : List LinkRecord) (k : ℕ) (x : LinkRecord) → SmallLinks l → SmallLink x → SmallLinks (set l k x)
small_more l k x h g j = go (ℕ_discrete j k) (dec_lt k (length l))
  where
    go : Dec (j ≡ k) → Dec (k < length l) → SmallLink (get_or (set l k x) j no_link)
    go (no d) e = rw (get_or-set_other l k j x no_link d) (h j)
    go (yes d) (yes e) = rw (d, get_or-set_same l k x no_link e) g
    go (yes d) (no e) = rw (set_out l k x (omega arith)) (h j)

-- One link more.
pub links_none : LinksLaid 0 [] (replicate 255 no_link)
links_none = record { many = refl; links_are = refl; small = small_none }

pub links_more : (n : ℕ) (xs : List Link) (x : Link) (l : List LinkRecord) (r : LinkRecord) → LinksLaid n xs l → LinkLaid x r → LinksLaid (n + 1) (xs ++ (x ∷ [])) (set l n r)
links_more n xs x l r h g = record {
  many = omega (arith, length-append xs (x ∷ []), h.many);
  links_are = rw (h.links_are, g.link_is) (padded_more 255 no_link (link_laid x) (map link_laid xs) n (sym (length-map xs link_laid ∙ h.many)) ∙ ap (padded 255 no_link) (sym (map-append link_laid xs (x ∷ []))));
  small = small_more l n r h.small g.small;
}

-- All of it: what stops the counts or the links is the flaw of the whole.
module _ (s : List ℕ) where
  abbrev T : ℕ × Scan
  T = field s tree_count_width (within 1 trees_most) start

  abbrev N : ℕ × Scan
  N = field s link_count_width free T.1

  pub trees_stop : {f : Fault} {p : ℕ} → T.1 ≡ Refused f p → (counts s start).1 ≡ Refused f p
  unfolding counts
  trees_stop {f} {p} e = rw e (ap (filled s) (keeps_times (link s T.0) (λ xs f p. refl) 0 f p))

  pub count_stops : {c : Cursor} {f : Fault} {p : ℕ} → T.1 ≡ At c → (field s link_count_width free (At c)).1 ≡ Refused f p → (counts s start).1 ≡ Refused f p
  unfolding counts link
  count_stops {c} {f} {p} e k = rw (e, k) (ap (filled s) (keeps_times (link s T.0) (λ xs f p. refl) (field s link_count_width free (At c)).0 f p))

  -- And so they are read whole.
  pub counts_are : {c d : Cursor} {n m : ℕ} → T.1 ≡ At c → (field s link_count_width free (At c)).1 ≡ At d → n ≡ T.0 → m ≡ (field s link_count_width free (At c)).0 →
      counts s start ≡ (record { trees = n; links = (times m (link s n) (At d)).0 }, filled s (times m (link s n) (At d)).1)
  unfolding counts
  counts_are e k vn vm = rw (vn, vm, e, k) refl

-- ---- the whole part

module _ (s : List ℕ) where
  after : Scan → Answer Part
  after q = (sheet_read (λ f. link_number) ((counts s start).0, q)) >>= (λ head. after_counts head.0.trees head.0.links (drop head.1 s))

  -- After sound counts and links it is the rest; their fault is that of the part.
  pub part_from : (n : ℕ) (c : Cursor) → n ≡ (counts s start).0.trees → (counts s start).1 ≡ At c → part s ≡ after_counts n (counts s start).0.links (drop (bytes_to (place_of c)) s)
  unfolding part after
  part_from n c t e = rw t (ap after e)

  pub part_stops : (f : Fault) (p : ℕ) → (counts s start).1 ≡ Refused f p → part s ≡ refused_in 0 link_number p
  unfolding part after
  part_stops f p e = ap after e

  -- The bytes that they take up are there.
  pub counts_room : (c : Cursor) → (counts s start).1 ≡ At c → bytes_to (place_of c) ≤ length s
  unfolding counts
  counts_room c e = fills_says s (place_of c) (tailed_wanted (filled_at s) (times (N s).0 (link s (T s).0) (N s).1).1 c e)

-- The rest is refused with the trees, or as the links are, or stored with them.
module _ (count : ℕ) (xs : List Link) (s : List ℕ) where
  pub rest_stops : {item number place : ℕ} → trees_from [] count s ≡ refused_in item number place → after_counts count xs s ≡ refused_in item number place
  unfolding after_counts
  rest_stops e = ap (λ (o : Answer (List Tree)). o >>= (λ ts. links_judged ts [] xs >>= (λ ys. success (record { trees = ts; links = ys })))) e

  pub rest_judged : (ts : List Tree) → trees_from [] count s ≡ success ts → after_counts count xs s ≡ (links_judged ts [] xs >>= (λ ys. success (record { trees = ts; links = ys })))
  unfolding after_counts
  rest_judged ts e = ap (λ (o : Answer (List Tree)). o >>= (λ us. links_judged us [] xs >>= (λ ys. success (record { trees = us; links = ys })))) e
