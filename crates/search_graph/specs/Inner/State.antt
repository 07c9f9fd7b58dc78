-- What the search's loops keep. `back` and `queue` are the lists behind the two lent slices.
use Rattle.std.specs.Prelude.{◌≡◌, List, ℕ, zero, suc, ◌+◌, ◌≤◌, ◌<◌, length, get_or}
use Rattle.search_graph.specs.Inner.Graph.{Graph, GraphReach, Chain}

-- 1 for a node that is visited, 0 for one that is not
unfoldable pub mark : ℕ → ℕ
mark zero = 0
mark (suc n) = 1

-- how many of the first n nodes are visited
unfoldable pub marks : List ℕ → ℕ → ℕ
marks back zero = 0
marks back (suc n) = marks back n + mark (get_or back n 0)

pub record InQueue (queue : List ℕ) (n v : ℕ) : Type 0 where
  pub place : ℕ
  pub below : place < n
  pub holds : get_or queue place 0 ≡ v

-- the edge from u by e to v, if it is one, arrives at no end, and its target is visited
pub record Clear (g : Graph) (back : List ℕ) (v : ℕ) : Type 0 where
  pub open_end : g.End v → ⊥
  pub seen : get_or back v 0 ≡ 0 → ⊥

abbrev pub Through : Graph → List ℕ → ℕ → ℕ → ℕ → Type 0
Through g back u e v = g.Edge u e v → Clear g back v

-- before the node at `head` is taken: `stop` is the end of the level at `depth`
pub record Inv (g : Graph) (back queue : List ℕ) (head tail stop depth : ℕ) : Type 0 where
  pub back_room : g.k ≤ length back
  pub queue_room : g.k ≤ length queue
  pub head_stop : head ≤ stop
  pub stop_tail : stop ≤ tail
  pub count : marks back g.k ≡ tail
  pub full : tail ≤ g.k
  pub deep : head < tail → depth < stop
  pub inside : (i : ℕ) → i < tail → get_or queue i 0 < g.k
  pub listed : (v : ℕ) → (get_or back v 0 ≡ 0 → ⊥) → InQueue queue tail v
  pub chains : (i : ℕ) → head ≤ i → i < stop → Chain g back depth (get_or queue i 0)
  pub chains_next : (i : ℕ) → stop ≤ i → i < tail → Chain g back (suc depth) (get_or queue i 0)
  pub past : (d u : ℕ) → d < depth → GraphReach g d u → InQueue queue head u
  pub level : (d u : ℕ) → d ≤ depth → GraphReach g d u → InQueue queue stop u
  pub done : (i : ℕ) → i < head → (e v : ℕ) → e < g.e → v < g.k → Through g back (get_or queue i 0) e v

-- in the turn of the node u at `head`: the events below ev are done, and of ev the targets below v
pub record Turn (g : Graph) (back queue : List ℕ) (head tail stop depth u ev v : ℕ) : Type 0 where
  pub inv : Inv g back queue head tail stop depth
  pub here : head < stop
  pub node : get_or queue head 0 ≡ u
  pub events : (e w : ℕ) → e < ev → w < g.k → Through g back u e w
  pub targets : (w : ℕ) → w < v → Through g back u ev w

-- the first n places of the queue hold rising numbers
abbrev pub Rising : List ℕ → ℕ → Type 0
Rising queue n = (i j : ℕ) → i < j → j < n → get_or queue i 0 < get_or queue j 0

-- v is a start node, and `back` says so
pub record Root (g : Graph) (back : List ℕ) (v : ℕ) : Type 0 where
  pub bound : v < g.k
  pub starts : g.Start v
  pub parent : get_or back v 0 ≡ g.k + 1

-- while the start nodes are looked for: the nodes below v are done
pub record Seeding (g : Graph) (back queue : List ℕ) (tail v : ℕ) : Type 0 where
  pub back_room : g.k ≤ length back
  pub queue_room : g.k ≤ length queue
  pub within : v ≤ g.k
  pub count : marks back v ≡ tail
  pub full : tail ≤ v
  pub listed : (w : ℕ) → w < v → (get_or back w 0 ≡ 0 → ⊥) → InQueue queue tail w
  pub roots : (i : ℕ) → i < tail → Root g back (get_or queue i 0)
  pub old : (i : ℕ) → i < tail → get_or queue i 0 < v
  pub rising : Rising queue tail
  pub starts : (w : ℕ) → w < v → g.Start w → get_or back w 0 ≡ 0 → ⊥
