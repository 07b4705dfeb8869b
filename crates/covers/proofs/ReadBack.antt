-- The cover sheet and the list sheet say what they were made from: their readers read it back.
use Prim.Native.Nat.{ℕ, ◌^◌, ◌<◌}
use mathlib.Core.Path.{refl, ap}
use mathlib.Core.List.{List, [], ◌∷◌, Memᴰ, append-nil}
use lib.ListN.{length}
use Rattle.covers.specs.Cover.{Point, Placed, Cover}
use Rattle.fields.specs.Reading.{Reader, done, ◌>>=◌, times, free, field, ended}
use Rattle.fields.specs.Written.{Field, packed}
use Rattle.fields.specs.Reading.{Scan}
use Rattle.fields.proofs.Laws.{free_small, length_times, times_each}
use Rattle.fields.proofs.Written.{Says, says_field, says_done, says_then, says_times, says_end, says_all}
use Rattle.covers.specs.CoverSheet.{area_width, arrival_width, match_count_width, node_width, pattern_width, crossing_width, point_count_width, placed_fields, cover_fields, point_fields, list_fields, cover_sheet, list_sheet, placed_read, cover_read, point_read, list_read, CoverReads, ListReads}

abbrev field_of : ℕ → ℕ → Field
field_of v w = record { value = v; width = w }

abbrev placed_entry : Placed → List Field
placed_entry x = field_of x.node node_width ∷ field_of x.pattern pattern_width ∷ field_of x.crossing crossing_width ∷ []

-- An entry of two fields.
pair_says : {A : Type 0} (all rest : List Field) (make : ℕ → ℕ → A) (w u : ℕ) {v x : ℕ} → v < 2 ^ w → x < 2 ^ u →
    Says all (field (packed all) w free >>= (λ a. field (packed all) u free >>= (λ b. done (make a b)))) (field_of v w ∷ field_of x u ∷ []) rest (make v x)
pair_says all rest make w u {v} {x} h g =
    says_then (λ a. field (packed all) u free >>= (λ b. done (make a b))) (says_field w h) (says_then (λ b. done (make v b)) (says_field u g) (says_done (make v x)))

-- ---- the cover sheet

-- An entry of three.
placed_says : (all rest : List Field) {n p x : ℕ} → n < 2 ^ node_width → p < 2 ^ pattern_width → x < 2 ^ crossing_width →
    Says all (placed_read (packed all) []) (placed_entry (record { node = n; pattern = p; crossing = x })) rest (record { node = n; pattern = p; crossing = x })
unfolding placed_read
placed_says all rest {n} {p} {x} h g k =
    says_then (λ a. field (packed all) pattern_width free >>= (λ b. field (packed all) crossing_width free >>= (λ c. done (record { node = a; pattern = b; crossing = c })))) (says_field node_width h)
    (says_then (λ b. field (packed all) crossing_width free >>= (λ c. done (record { node = n; pattern = b; crossing = c }))) (says_field pattern_width g)
    (says_then (λ c. done (record { node = n; pattern = p; crossing = c })) (says_field crossing_width k) (says_done (record { node = n; pattern = p; crossing = x }))))

-- A cover that its sheet has room for.
pub record CoverFits (c : Cover) : Type 0 where
  pub area : c.point.area < 2 ^ area_width
  pub arrival : c.point.arrival < 2 ^ arrival_width
  pub count : length c.placed < 2 ^ match_count_width
  pub placed : (x : Placed) → Memᴰ x c.placed → (x.node < 2 ^ node_width) × (x.pattern < 2 ^ pattern_width) × (x.crossing < 2 ^ crossing_width)

pub cover_reads : {c : Cover} → CoverFits c → CoverReads c (cover_sheet c)
unfolding cover_sheet cover_read placed_read cover_fields placed_fields
cover_reads {c} h =
    let all = cover_fields c in
    let s = packed all in
    let last : ℕ → ℕ → List Placed → Reader Cover = λ a t xs q. (record { point = record { area = a; arrival = t }; placed = xs }, ended s q) in
    let matches : ℕ → ℕ → ℕ → Reader Cover = λ a t n. times n (placed_read s) >>= last a t in
    let counted : ℕ → ℕ → Reader Cover = λ a t. field s match_count_width free >>= matches a t in
    let timed : ℕ → Reader Cover = λ a. field s arrival_width free >>= counted a in
    let listed = says_times all placed_entry placed_fields refl (λ x xs. refl) (placed_read s) c.placed (λ x m ys gs. placed_says all gs (h.placed x m).0 (h.placed x m).1 (h.placed x m).2) in
    let numbered = says_then (matches c.point.area c.point.arrival) (says_field match_count_width h.count) (says_then (last c.point.area c.point.arrival) listed (says_end c)) in
    let said = says_then timed (says_field area_width h.area) (says_then (counted c.point.area) (says_field arrival_width h.arrival) numbered) in
    let fields : List Field → List Field = λ fs. field_of c.point.area area_width ∷ field_of c.point.arrival arrival_width ∷ field_of (length c.placed) match_count_width ∷ fs in
    record { reads = says_all (ap fields (append-nil (placed_fields c.placed))) said }

-- What is read from any bytes fits.
pub cover_read_fits : (s : List ℕ) (c : Scan) → CoverFits (cover_read s c).0
unfolding cover_read placed_read
cover_read_fits s c =
    let a = field s area_width free c in
    let t = field s arrival_width free a.1 in
    let n = field s match_count_width free t.1 in
    record {
      area = free_small s area_width c;
      arrival = free_small s arrival_width a.1;
      count = rw (length_times n.0 (placed_read s) n.1) (free_small s match_count_width t.1);
      placed = times_each (λ x. (x.node < 2 ^ node_width) × (x.pattern < 2 ^ pattern_width) × (x.crossing < 2 ^ crossing_width)) (placed_read s)
          (λ xs q. let node = field s node_width free q in (free_small s node_width q, free_small s pattern_width node.1, free_small s crossing_width (field s pattern_width free node.1).1)) n.0 n.1;
    }

-- ---- the list sheet

-- Trade-offs that a list sheet has room for.
pub record ListFits (ps : List Point) : Type 0 where
  pub count : length ps < 2 ^ point_count_width
  pub points : (p : Point) → Memᴰ p ps → (p.arrival < 2 ^ arrival_width) × (p.area < 2 ^ area_width)

pub list_reads : {ps : List Point} → ListFits ps → ListReads ps (list_sheet ps)
unfolding list_sheet list_read point_read list_fields point_fields
list_reads {ps} h =
    let all = list_fields ps in
    let s = packed all in
    let last : List Point → Reader (List Point) = λ xs q. (xs, ended s q) in
    let entry : Point → List Field = λ p. field_of p.arrival arrival_width ∷ field_of p.area area_width ∷ [] in
    let make : ℕ → ℕ → Point = λ t a. record { area = a; arrival = t } in
    let listed = says_times all entry point_fields refl (λ x xs. refl) (point_read s) ps (λ x m ys gs. pair_says all gs make arrival_width area_width (h.points x m).0 (h.points x m).1) in
    let said = says_then (λ n. times n (point_read s) >>= last) (says_field point_count_width h.count) (says_then last listed (says_end ps)) in
    record { reads = says_all (ap (λ (fs : List Field). field_of (length ps) point_count_width ∷ fs) (append-nil (point_fields ps))) said }
