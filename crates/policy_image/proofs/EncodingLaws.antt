-- Reading what is written gives the policy back, and an image whose length is exact is what its decoded form writes.
use Prim.Native.Nat.{ℕ, suc, ◌+◌, ◌*◌, ◌-◌, ◌≤◌, ◌<◌}
use mathlib.Core.Path.{◌≡◌, refl, sym, ap, ap₂, ◌∙◌}
use mathlib.Core.List.{List, [], ◌∷◌, ◌++◌}
use native.Mathlib.Nat.{add-zero}
use native.Mathlib.Omega.{arith}
use lib.ListN.{length, take, drop, length-append, length-drop, take-append-drop, get_or-append}
use lib.Seq.{take_all, take-add, get_or-append-add, get_or-take, get_or-drop, drop-drop}
use Rattle.base.specs.Bytes.{byte_at, u16_at, u32_at}
use Rattle.base.specs.Ranges.{Within}
use Rattle.base.specs.Writing.{low16, low32, list_upto}
use Rattle.base.specs.Inner.AllBytes.{AllBytes}
use Rattle.base.proofs.WritingLaws.{low16_back, low32_back, entries_from, take_entries, list_length, list_at, list_take}
use Rattle.policy_image.specs.declared.counts.Counts.{Counts}
use Rattle.policy_image.specs.declared.records.Record.{Record}
use Rattle.policy_image.specs.Layout.{PolicyExact, record_count, counts_of, policy_head, record_start, payload_of, decoded, record_of}
use Rattle.policy_image.specs.Policy.{Policy, policy_of}
use Rattle.policy_image.specs.Encoding.{count_bytes, header_bytes, record_bytes, image_of}
use Rattle.policy_image.specs.Inner.Sizes.{header_size, stride, size_of, image_size}
use Rattle.policy_image.specs.Inner.Writable.{WritableRecord, Writable}
use Rattle.policy_image.proofs.FieldLaws.{record_same, counts_same}
use Rattle.policy_image.proofs.LayoutLaws.{payload_there, payload_length}
use Rattle.policy_image.proofs.SizeLaws.{size_times}

-- ---- lengths
header_length : (c : Counts) (h : ℕ → ℕ) → length (header_bytes c h) ≡ header_size
unfolding header_bytes count_bytes header_size
header_length c h = refl

pub record_length : (r : Record) → length (record_bytes r) ≡ stride
unfolding record_bytes stride
record_length r = refl

pub image_length : (p : Policy) → length (image_of p) ≡ image_size p.size
unfolding image_of
image_length p =
    length-append (header_bytes p.counts p.head) (list_upto (λ k. record_bytes (p.rec k)) p.size)
    ∙ ap₂ ◌+◌ (header_length p.counts p.head)
    (list_length (λ k. record_bytes (p.rec k)) stride (λ k. record_length (p.rec k)) p.size ∙ sym (size_times p.size))

-- ---- where the bytes of an image that is written stand
pub header_at : (p : Policy) (i : ℕ) → i < header_size → byte_at (image_of p) i ≡ byte_at (header_bytes p.counts p.head) i
unfolding image_of
header_at p i h =
    get_or-append (header_bytes p.counts p.head) (list_upto (λ k. record_bytes (p.rec k)) p.size) 0 i
    (omega (arith, header_length p.counts p.head))

head_at : (c : Counts) (h : ℕ → ℕ) (k j : ℕ) → k < 9 → j < 2 → byte_at (header_bytes c h) (6 + (2 * k + j)) ≡ byte_at (low16 (h (suc k))) j
unfolding header_bytes count_bytes
head_at c h k j a b =
    get_or-append-add (count_bytes c) (list_upto (λ i. low16 (h i)) 9) (2 * k + j) 0
    ∙ list_at (λ i. low16 (h i)) 2 (λ i. refl) 9 k j a b

pub record_at : (p : Policy) (k j : ℕ) → k < p.size → j < stride → byte_at (image_of p) (header_size + (size_of k + j)) ≡ byte_at (record_bytes (p.rec (suc k))) j
unfolding image_of
record_at p k j a b =
    ap₂ (λ (z n : ℕ). byte_at (image_of p) (z + (n + j))) (sym (header_length p.counts p.head)) (size_times k)
    ∙ get_or-append-add (header_bytes p.counts p.head) (list_upto (λ i. record_bytes (p.rec i)) p.size) (stride * k + j) 0
    ∙ list_at (λ i. record_bytes (p.rec i)) stride (λ i. record_length (p.rec i)) p.size k j a b

-- ---- reading what is written
payload_at : (s : List ℕ) (k j : ℕ) → 1 ≤ k → k ≤ 4095 → record_start k + 12 ≤ length s → j < 10 → byte_at (payload_of s k) j ≡ byte_at s (record_start k + 2 + j)
payload_at s k j l h room b =
    ap (λ (q : List ℕ). byte_at q j) (payload_there s k l h room) ∙ get_or-take 10 (drop (record_start k + 2) s) j 0 b ∙ get_or-drop (record_start k + 2) s j 0

module _ (p : Policy) (W : Writable p) where
  pub count_written : record_count (image_of p) ≡ p.size
  unfolding record_count image_of header_bytes count_bytes
  count_written = omega arith

  pub counts_written : counts_of (image_of p) ≡ p.counts
  unfolding counts_of image_of header_bytes count_bytes
  counts_written =
      counts_same (record { types = refl; roles = refl; users = refl; classes = refl; records = count_written ∙ sym W.size })

  pub written_exact : PolicyExact (image_of p)
  unfolding header_size size_of
  written_exact =
      let n = count_written in
      let l = image_length p in
      record { whole = omega arith; few = omega arith; exact = omega arith }

  pub head_written : (k : ℕ) → Within 1 9 k → policy_head (image_of p) k ≡ p.head k
  unfolding policy_head header_size
  head_written k w =
      let h = W.heads k w in
      let low = byte (4 + 2 * k) 0 (omega arith) (omega arith) in
      let high = byte (4 + 2 * k + 1) 1 (omega arith) (omega arith) in
      omega arith
    where
      byte : (i j : ℕ) → i ≡ 6 + (2 * (k - 1) + j) → j < 2 → byte_at (image_of p) i ≡ byte_at (low16 (p.head k)) j
      byte i j e b =
          ap (byte_at (image_of p)) e ∙ header_at p (6 + (2 * (k - 1) + j)) (omega (arith, w.high)) ∙ head_at p.counts p.head (k - 1) j (omega (arith, w.high)) b
          ∙ ap (λ (z : ℕ). byte_at (low16 (p.head z)) j) (let q : suc (k - 1) ≡ k = omega (arith, w.low) in q)

  pub record_written : (k : ℕ) → Within 1 p.size k → record_of (image_of p) k ≡ p.rec k
  unfolding record_of decoded record_bytes header_size stride size_of
  record_written k w =
      let F = W.fields k w in
      let n0 = byte (record_start k) 0 (omega arith) (omega arith) in
      let n1 = byte (record_start k + 1) 1 (omega arith) (omega arith) in
      let m0 = rest 6 (omega arith) in
      let m1 = rest 7 (omega arith) in
      let m2 = rest 8 (omega arith) in
      let m3 = rest 9 (omega arith) in
      record_same
      (record {
        next = omega arith;
        kind = rest 0 (omega arith);
        a = rest 1 (omega arith);
        b = rest 2 (omega arith);
        c = rest 3 (omega arith);
        d = rest 4 (omega arith);
        e = rest 5 (omega arith);
        mask = omega arith;
      })
    where
      byte : (i j : ℕ) → i ≡ record_start k + j → j < 12 → byte_at (image_of p) i ≡ byte_at (record_bytes (p.rec k)) j
      byte i j e b =
          ap (byte_at (image_of p)) (let q : i ≡ 24 + (12 * (k - 1) + j) = omega arith in q)
          ∙ record_at p (k - 1) j (omega (arith, w.low, w.high)) b
          ∙ ap (λ (z : ℕ). byte_at (record_bytes (p.rec z)) j) (let q : suc (k - 1) ≡ k = omega (arith, w.low) in q)

      rest : (j : ℕ) → j < 10 → byte_at (payload_of (image_of p) k) j ≡ byte_at (record_bytes (p.rec k)) (2 + j)
      rest j b =
          payload_at (image_of p) k j w.low (omega arith) (omega (arith, image_length p)) b
          ∙ byte (record_start k + 2 + j) (2 + j) (omega arith) (omega arith)

-- ---- writing what is read
module _ (s : List ℕ) (B : AllBytes s) where
  pair_back : (i : ℕ) → i + 2 ≤ length s → low16 (u16_at s i) ≡ take 2 (drop i s)
  pair_back i h =
      low16_back (byte_at s i) (byte_at s (i + 1)) (B i) (B (i + 1)) ∙ ap (λ (z : ℕ). byte_at s z ∷ byte_at s (i + 1) ∷ []) (sym (add-zero i))
      ∙ sym (take_entries s i 0 2 (omega arith)) ∙ ap (λ (z : ℕ). take 2 (drop z s)) (add-zero i)

  header_back : 24 ≤ length s → header_bytes (counts_of s) (policy_head s) ≡ take 24 s
  unfolding header_bytes count_bytes counts_of record_count policy_head
  header_back h = ap₂ ◌++◌ front heads ∙ sym (take-add 6 18 s)
    where
      front : ◌≡◌ {A = List ℕ} (byte_at s 0 ∷ byte_at s 1 ∷ byte_at s 2 ∷ byte_at s 3 ∷ low16 (u16_at s 4)) (take 6 s)
      front =
          ap (λ (l : List ℕ). byte_at s 0 ∷ byte_at s 1 ∷ byte_at s 2 ∷ byte_at s 3 ∷ l) (pair_back 4 (omega arith) ∙ take_entries s 0 4 2 (omega arith))
          ∙ sym (take_entries s 0 0 6 (omega arith))

      heads : list_upto (λ k. low16 (policy_head s k)) 9 ≡ take 18 (drop 6 s)
      heads =
          list_take (λ k. low16 (policy_head s k)) 2 (drop 6 s) 9
          (λ k l. pair_back (4 + 2 * suc k) (omega arith)
          ∙ ap (λ (i : ℕ). take 2 (drop i s)) (let e : 4 + 2 * suc k ≡ 6 + 2 * k = omega arith in e) ∙ ap (take 2) (sym (drop-drop (2 * k) 6 s)))

  module _ (E : PolicyExact s) where
    module _ (k : ℕ) (w : Within 1 (record_count s) k) where
      small : (j : ℕ) → j < 10 → byte_at (payload_of s k) j < 256
      small j b = rw (payload_at s k j w.low (omega (arith, E.few)) (omega (arith, E.exact)) b) (B (record_start k + 2 + j))

      record_back : record_bytes (record_of s k) ≡ take 12 (drop (record_start k) s)
      unfolding record_bytes record_of decoded
      record_back = rw mask (ap₂ ◌++◌ (pair_back (record_start k) (omega (arith, E.exact))) rest ∙ sym (take-add 2 10 (drop (record_start k) s)))
        where
          mask : low32 (u32_at (payload_of s k) 6) ≡ entries_from (payload_of s k) 0 6 4
          mask = low32_back _ _ _ _ (small 6 (omega arith)) (small 7 (omega arith)) (small 8 (omega arith)) (small 9 (omega arith))

          rest : entries_from (payload_of s k) 0 0 10 ≡ take 10 (drop 2 (drop (record_start k) s))
          rest =
              let n = payload_length s k E w.low w.high in
              sym (take_entries (payload_of s k) 0 0 10 (omega arith)) ∙ take_all 10 (payload_of s k) (omega arith)
              ∙ payload_there s k w.low (omega (arith, E.few)) (omega (arith, E.exact)) ∙ ap (take 10) (sym (drop-drop 2 (record_start k) s))

      record_writable : WritableRecord (record_of s k)
      unfolding record_of decoded
      record_writable =
          record {
            next = omega (arith, B (record_start k), B (record_start k + 1));
            bytes = record {
              kind = small 0 (omega arith);
              a = small 1 (omega arith);
              b = small 2 (omega arith);
              c = small 3 (omega arith);
              d = small 4 (omega arith);
              e = small 5 (omega arith);
            };
            mask = omega (arith, small 6 (omega arith), small 7 (omega arith), small 8 (omega arith), small 9 (omega arith));
          }

    -- an image whose length is exact is what its decoded form writes
    pub image_back : image_of (policy_of s) ≡ s
    unfolding image_of
    image_back =
        ap₂ ◌++◌ (header_back E.whole) (records ∙ take_all (12 * record_count s) (drop 24 s) (simp length-drop (omega (arith, E.exact)))) ∙ take-append-drop 24 s
      where
        records : list_upto (λ k. record_bytes (record_of s k)) (record_count s) ≡ take (12 * record_count s) (drop 24 s)
        records =
            list_take (λ k. record_bytes (record_of s k)) 12 (drop 24 s) (record_count s)
            (λ k l. record_back (suc k) (record { low = omega arith; high = omega arith })
            ∙ ap (λ (i : ℕ). take 12 (drop i s)) (let e : record_start (suc k) ≡ 24 + 12 * k = omega arith in e) ∙ ap (take 12) (sym (drop-drop (12 * k) 24 s)))

    -- and its decoded form can be written
    pub image_writable : Writable (policy_of s)
    unfolding counts_of policy_head
    image_writable =
        record {
          counts = record { types = B 0; roles = B 1; users = B 2; classes = B 3; records = E.few };
          size = refl;
          heads = λ k w. omega (arith, B (4 + 2 * k), B (4 + 2 * k + 1));
          fields = record_writable;
        }
