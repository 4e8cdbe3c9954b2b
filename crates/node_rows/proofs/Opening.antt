-- What is made of rows that are cut by kind.
use Rattle.std.proofs.Common.{◌≡◌, ◌↔◌, true≢false, inl, inr, ℕ, ◌<◌, ◌≤◌, ◌^◌, Bool, true, false, T, List, [], ◌∷◌, ◌++◌, map as map_list, length, get_or, take, drop, Some, None, Result, Ok, Err, arith, refl, sym, ap, subst, ◌∙◌}
use Rattle.std.specs.FinMap as map
use Rattle.std.specs.FinSet as set
use Rattle.std.specs.List.{AllByRecursion}
use Rattle.std.specs.Prelude.{is_some, IsTrue}
use Rattle.std.specs.Cmp.Lexicographic.{slice_cmp}
use Rattle.std.specs.Ordering.{nat_cmp}
use Rattle.std.proofs.lemmas.List.{length-replicate}
use Rattle.bridge_deltas.specs.Links.{LinksView, opened_links}
use Rattle.causal_context.specs.Dots.{Dots, dot_cmp}
use Rattle.subscription_set.specs.Standing.{seen_of}
use Rattle.subscription_set.proofs.Seen.{contains-seen_of}
use Rattle.replica_store.specs.declared.kept.Kept.{Kept}
use Rattle.replica_store.specs.Retained.{Retained}
use Rattle.bridge_lanes.specs.Reading.{AreLanesOf}
use Rattle.bridge_lanes.specs.Lanes.{new_lane}
use Rattle.replica_store.specs.States.{State, nothing}
use Rattle.row_store.specs.declared.row.Row.{Row}
use Rattle.row_store.specs.declared.store.RowFault.{RowFault}
use Rattle.row_store.specs.declared.store.RowFault.TheVariants.{NoMemory, Device, BadRow}
use Rattle.row_store.specs.Rows.{Key, content_of, entry_of, key_cmp, Plain}
use Rattle.row_store.proofs.Keys.{keys_total}
use Rattle.session_rows.specs.Durable.{Durable, IsDurable}
use Rattle.session_table.specs.Seats.{Seats}
use Rattle.replica_rows.specs.Reading.{AreAllRowsOf, IsStore}
use Rattle.replica_rows.proofs.OneStore.{one_reading}
use Rattle.node_rows.specs.declared.reading.Opened.{Opened}
use Rattle.node_rows.specs.Reading.{AreAmong, AreLinksToOthers, AreNodeRows, AreOpened, Recovers, IsAmong, IsCut, IsLasting, IsMark, IsOpened, IsStateOf, NoLanesToOthers, NoMark, NoState, SayNothing, SayNothingNow, SayNow}
use Rattle.node_rows.specs.Rows.{Lasting, new_node, node_row}
use Rattle.node_rows.specs.Sessions.{AreRead, AreSessions, NoSessions, session_at}
use Rattle.node_rows.proofs.Clients.{session_is}
use Rattle.node_rows.proofs.Counted.{behind, first_and_behind, mapped_both}
use Rattle.node_rows.proofs.Cuts.{last_row, say_so}
use Rattle.node_rows.proofs.Kept.{IsKeptBelow, stamps_from, stamps_to}
use Rattle.node_rows.proofs.Lanes.{are_lanes, last_found, new_are_lanes, new_has_none, of_state}
use Rattle.node_rows.proofs.Lists.{all_front, sorted_front, sorted_tail}
use Rattle.node_rows.proofs.Said.{first_mark, of_last, of_sessions, others_up}

-- ---- a new node
pub new_lasting : (id nodes : ℕ) → nodes ≤ 2 ^ 16 → IsStore nothing → IsLasting id nodes (new_node nodes)
new_lasting id nodes few store = record {
  few = few;
  named = omega arith;
  sessions = λ client d is. absurd (cc);
  store = store;
  among = record {
    taken = λ d there. absurd (let other : false ≡ true = sym (set.contains-empty dot_cmp d) ∙ there in cc);
    seen = λ d there. absurd (let other : false ≡ true = ap is_some (sym (map.get-empty dot_cmp d)) ∙ sym (contains-seen_of map.empty d) ∙ there in cc);
    stamps = λ topic k is. absurd (let other : None ≡ Some k = sym (map.get-empty (slice_cmp nat_cmp) topic) ∙ is in cc);
  };
  lanes = new_are_lanes nodes;
  others = new_has_none id nodes;
}

pub new_said : (nodes : ℕ) → new_node nodes ≡ new_node (length (new_node nodes).lanes)
new_said nodes = ap new_node (sym (length-replicate nodes new_lane))

-- what a function opens that isn't given rows
pub new_found : (rows : List Row) (id nodes : ℕ) (r : Result Opened RowFault) → rows ≡ [] → nodes ≤ 2 ^ 16 → IsStore nothing → Recovers (IsOpened id nodes (new_node nodes)) ⊥ r
    → Recovers (λ (o : Opened). (x : Lasting) × IsLasting id nodes x × SayNow rows id x × IsOpened id nodes x o) (SayNothingNow rows id nodes) r
new_found rows id nodes (Ok o) none few store is = (new_node nodes, new_lasting id nodes few store, inl (none, new_said nodes), is)
new_found rows id nodes (Err NoMemory) none few store is = tt
new_found rows id nodes (Err BadRow) none few store is = absurd is
new_found rows id nodes (Err Device) none few store is = is

-- ---- the rows, cut behind the mark and by kind
pub cut_so : (rows own later copies last state lanes : List Row) (n m k : ℕ) → own ≡ take n rows → later ≡ drop n rows → rows ≡ own ++ later → copies ≡ take m later → last ≡ drop m later → later ≡ copies ++ last
    → state ≡ take k last → lanes ≡ drop k last → last ≡ state ++ lanes
    → AllByRecursion (λ e. e.0.0 ≤ 2) (map_list entry_of (take n rows)) → AllByRecursion (λ e. 2 < e.0.0) (map_list entry_of (drop n rows))
    → AllByRecursion (λ e. e.0.0 ≤ 3) (map_list entry_of (take m later)) → AllByRecursion (λ e. 3 < e.0.0) (map_list entry_of (drop m later))
    → AllByRecursion (λ e. e.0.0 ≤ 6) (map_list entry_of (take k last)) → AllByRecursion (λ e. 6 < e.0.0) (map_list entry_of (drop k last))
    → IsCut (map_list entry_of rows) (map_list entry_of own) (map_list entry_of copies) (map_list entry_of state) (map_list entry_of lanes)
cut_so rows own later copies last state lanes n m k own_is later_is rows_are copies_is last_is later_are state_is lanes_is last_are own_low later_high copies_low last_high state_low lanes_high =
    let end = ap (map_list entry_of) last_are ∙ mapped_both state lanes in
    let back = ap (map_list entry_of) later_are ∙ mapped_both copies last in
    let high = subst (λ (rs : List Row). AllByRecursion (λ (e : Plain). 2 < e.0.0) (map_list entry_of rs)) (sym later_is) later_high in
    let higher = subst (λ (rs : List Row). AllByRecursion (λ (e : Plain). 3 < e.0.0) (map_list entry_of rs)) (sym last_is) last_high in
    record {
      are = ap (map_list entry_of) rows_are ∙ mapped_both own later ∙ ap (λ (es : List Plain). map_list entry_of own ++ es) (back ∙ ap (λ (es : List Plain). map_list entry_of copies ++ es) end);
      own_low = subst (λ (rs : List Row). AllByRecursion (λ (e : Plain). e.0.0 ≤ 2) (map_list entry_of rs)) (sym own_is) own_low;
      copies_high = all_front (λ (e : Plain). 2 < e.0.0) (map_list entry_of copies) (map_list entry_of last) (subst (AllByRecursion (λ (e : Plain). 2 < e.0.0)) back high);
      copies_low = subst (λ (rs : List Row). AllByRecursion (λ (e : Plain). e.0.0 ≤ 3) (map_list entry_of rs)) (sym copies_is) copies_low;
      last_high = subst (AllByRecursion (λ (e : Plain). 3 < e.0.0)) end higher;
      state_low = subst (λ (rs : List Row). AllByRecursion (λ (e : Plain). e.0.0 ≤ 6) (map_list entry_of rs)) (sym state_is) state_low;
      lanes_high = subst (λ (rs : List Row). AllByRecursion (λ (e : Plain). 6 < e.0.0) (map_list entry_of rs)) (sym lanes_is) lanes_high;
    }

-- rows that rise: the first, and the others by kind
pub record IsWhole (rows : List Row) (first : Plain) (own copies state lanes : List Plain) : Type 0 where
  pub are : map_list entry_of rows ≡ first ∷ (own ++ (copies ++ (state ++ lanes)))
  pub up : T (map.is_sorted key_cmp (first ∷ (own ++ (copies ++ (state ++ lanes)))))
  pub others : List Plain
  pub cut : IsCut others own copies state lanes

pub whole_so : (rows : List Row) (first : Row) (own copies state lanes : List Plain) → T (map.is_sorted key_cmp (map_list entry_of rows)) → 1 ≤ length rows → first ≡ get_or rows 0 first
    → IsCut (map_list entry_of (behind rows)) own copies state lanes → IsWhole rows (entry_of first) own copies state lanes
whole_so rows first own copies state lanes up some at cut =
    let all = first_and_behind rows first some at ∙ ap (λ (es : List Plain). entry_of first ∷ es) cut.are in
    record { are = all; up = subst (λ (es : List Plain). T (map.is_sorted key_cmp es)) all up; others = map_list entry_of (behind rows); cut = cut }

pub own_sorted : (others own copies state lanes : List Plain) → T (map.is_sorted key_cmp others) → IsCut others own copies state lanes → T (map.is_sorted key_cmp own)
own_sorted others own copies state lanes up cut = sorted_front own (copies ++ (state ++ lanes)) (subst (λ (es : List Plain). T (map.is_sorted key_cmp es)) cut.are up)

module _ (rows : List Row) (first : Plain) (own copies : List Plain) (state : List Row) (lanes : List Plain) (whole : IsWhole rows first own copies (map_list entry_of state) lanes) (id nodes : ℕ) where
  own_up : T (map.is_sorted key_cmp own)
  own_up = sorted_front own (copies ++ (map_list entry_of state ++ lanes)) (sorted_tail first (own ++ (copies ++ (map_list entry_of state ++ lanes))) whole.up)

  -- ---- what they say
  pub said : (named : ℕ) (s : State) (seats : Seats) (links : LinksView) → nodes ≤ 2 ^ 16 → IsMark id first named → IsStateOf state nodes s → AreRead own copies seats → AreLinksToOthers lanes id nodes links
      → (x : Lasting) × IsLasting id nodes x × SayNow rows id x × (named ≡ x.named) × AreOpened x seats × (s ≡ x.store) × (links ≡ opened_links id nodes x.lanes)
  said named s seats links few is_mark of_s read of_lanes =
      let ds = read.0 in
      let x : Lasting = record { named = named; sessions = session_at ds; store = s; lanes = of_lanes.0 } in
      let state_rest : (q : Key) → map.find key_cmp q (map_list entry_of state) ≡ map.get (content_of state) q = λ q. sym (map.get-from_entries keys_total (map_list entry_of state) q) in
      let rest : (q : Key) → map.find key_cmp q (map_list entry_of state ++ lanes) ≡ last_row x q = last_found x (map_list entry_of state) lanes whole.cut.state_low of_lanes.1.is (λ q. state_rest q ∙ of_s.rows_are.are q) in
      let lasting : IsLasting id nodes x = record {
        few = few;
        named = is_mark.0;
        sessions = λ client d is. (let one = session_is IsDurable ds client d read.1.durable is in (one.0, sym one.1));
        store = of_s.kept.store;
        among = of_s.kept.among;
        lanes = of_lanes.1.lanes_are;
        others = of_lanes.2;
      } in
      let are : AreNodeRows rows id x = record {
        rise = subst (λ (es : List Plain). T (map.is_sorted key_cmp es)) (sym whole.are) whole.up;
        are = λ q. map.get-from_entries keys_total (map_list entry_of rows) q ∙ ap (map.find key_cmp q) whole.are
            ∙ say_so id x first own copies (map_list entry_of state ++ lanes) ds is_mark.1 own_up read.1 (λ client. refl) rest q;
      } in
      (x, lasting, inr are, refl, read.2, refl, of_lanes.3)

  -- ---- what they can't say
  no_rows : (es : List Row) → es ≡ [] → map_list entry_of es ≡ first ∷ (own ++ (copies ++ (map_list entry_of state ++ lanes))) → ⊥
  no_rows [] none is = cc
  no_rows (e ∷ es) none is = cc

  module _ (x : Lasting) (lasting : IsLasting id nodes x) (are : AreNodeRows rows id x) where
    found_all : (q : Key) → map.find key_cmp q (first ∷ (own ++ (copies ++ (map_list entry_of state ++ lanes)))) ≡ node_row id x q
    found_all q = ap (map.find key_cmp q) (sym whole.are) ∙ sym (map.get-from_entries keys_total (map_list entry_of rows) q) ∙ are.are q

    has_mark : IsMark id first x.named
    has_mark = (lasting.named, first_mark id x lasting.sessions first own copies (map_list entry_of state ++ lanes) whole.up found_all whole.cut.own_low whole.cut.copies_high whole.cut.copies_low whole.cut.last_high)

    last_up : T (map.is_sorted key_cmp (map_list entry_of state ++ lanes))
    last_up = others_up id x lasting.sessions first own copies (map_list entry_of state ++ lanes) whole.up found_all whole.cut.own_low whole.cut.copies_high whole.cut.copies_low whole.cut.last_high

    found_last : (q : Key) → map.find key_cmp q (map_list entry_of state ++ lanes) ≡ last_row x q
    found_last = of_last id x lasting.sessions first own copies (map_list entry_of state ++ lanes) whole.up found_all whole.cut.own_low whole.cut.copies_high whole.cut.copies_low whole.cut.last_high

    has_state : IsStateOf state nodes x.store
    has_state = record {
      rows_are = record {
        rise = sorted_front (map_list entry_of state) lanes last_up;
        are = λ q. map.get-from_entries keys_total (map_list entry_of state) q ∙ of_state x (map_list entry_of state) lanes whole.cut.state_low whole.cut.lanes_high found_last q;
      };
      kept = record { store = lasting.store; among = lasting.among };
    }

    has_lanes : AreLanesOf nodes lanes x.lanes
    has_lanes = are_lanes x (map_list entry_of state) lanes whole.cut.state_low whole.cut.lanes_high found_last nodes lasting.few lasting.lanes last_up

    has_sessions : (ds : List Durable) × AreSessions own copies ds
    has_sessions = of_sessions id x lasting.sessions first own copies (map_list entry_of state ++ lanes) whole.up found_all whole.cut.own_low whole.cut.copies_high whole.cut.copies_low whole.cut.last_high

  pub no_mark : NoMark id first → SayNothingNow rows id nodes
  no_mark none x lasting (inl new) = no_rows rows new.0 whole.are
  no_mark none x lasting (inr are) = none x.named (has_mark x lasting are)

  pub no_state : NoState state nodes → SayNothingNow rows id nodes
  no_state none x lasting (inl new) = no_rows rows new.0 whole.are
  no_state none x lasting (inr are) = none x.store (has_state x lasting are)

  pub no_sessions : NoSessions own copies → SayNothingNow rows id nodes
  no_sessions none x lasting (inl new) = no_rows rows new.0 whole.are
  no_sessions none x lasting (inr are) = (let some = has_sessions x lasting are in none some.0 some.1)

  pub no_lanes : NoLanesToOthers lanes id nodes → SayNothingNow rows id nodes
  no_lanes none x lasting (inl new) = no_rows rows new.0 whole.are
  no_lanes none x lasting (inr are) = none x.lanes (has_lanes x lasting are) lasting.others

-- ---- rows that don't rise
pub not_rising : (rows : List Row) (id nodes : ℕ) → (T (map.is_sorted key_cmp (map_list entry_of rows)) → ⊥) → SayNothing rows id nodes
not_rising [] id nodes not x lasting says = not tt
not_rising (e ∷ es) id nodes not x lasting (inl (inl new)) = absurd (let other = new.0 in cc)
not_rising (e ∷ es) id nodes not x lasting (inl (inr are)) = not are.rise
not_rising (e ∷ es) id nodes not x lasting (inr are) = not are.rise

-- ---- rows of another state
pub one_state : (rows : List Row) (nodes : ℕ) (s : State) → AreAllRowsOf rows s → IsStore s → (IsAmong nodes s → ⊥) → NoState rows nodes
one_state rows nodes s are store far t is = far (subst (IsAmong nodes) (one_reading rows t s is.kept.store store is.rows_are are) is.kept.among)

-- ---- parts of a state
pub far_taken : (nodes : ℕ) (s : State) (dots : Dots) (b : Bool) → dots ≡ s.taken → IsTrue b ↔ AreAmong nodes dots → b ≡ false → IsTrue false ↔ IsAmong nodes s
far_taken nodes s dots b is holds no_true = (λ h. absurd (true≢false (sym h)), λ among. absurd (true≢false (sym (holds.1 (subst (AreAmong nodes) (sym is) among.taken)) ∙ no_true)))

pub far_seen : (nodes : ℕ) (s : State) (dots : Dots) (b : Bool) → dots ≡ seen_of s.subscriptions → IsTrue b ↔ AreAmong nodes dots → b ≡ false → IsTrue false ↔ IsAmong nodes s
far_seen nodes s dots b is holds no_true = (λ h. absurd (true≢false (sym h)), λ among. absurd (true≢false (sym (holds.1 (subst (AreAmong nodes) (sym is) among.seen)) ∙ no_true)))

pub all_among : (nodes : ℕ) (s : State) (taken seen : Dots) (kept : Retained) (b : Bool) → taken ≡ s.taken → AreAmong nodes taken → seen ≡ seen_of s.subscriptions → AreAmong nodes seen → kept ≡ s.retained
    → IsTrue b ↔ AllByRecursion (IsKeptBelow nodes) (map.entries kept) → IsTrue b ↔ IsAmong nodes s
all_among nodes s taken seen kept b taken_is taken_low seen_is seen_low kept_is holds = (
  λ h. record { taken = subst (AreAmong nodes) taken_is taken_low; seen = subst (AreAmong nodes) seen_is seen_low; stamps = subst (λ (r : Retained). (topic : List ℕ) (k : Kept) → map.get r topic ≡ Some k → k.stamp.node < nodes) kept_is (stamps_from nodes kept (holds.0 h)) },
  λ among. holds.1 (stamps_to nodes kept (subst (λ (r : Retained). (topic : List ℕ) (k : Kept) → map.get r topic ≡ Some k → k.stamp.node < nodes) (sym kept_is) among.stamps)),
)

-- ---- what is returned
pub opened_so : (rows : List Row) (id nodes : ℕ) (o : Opened)
    → (x : Lasting) × IsLasting id nodes x × SayNow rows id x × (o.named ≡ x.named) × AreOpened x o.sessions × (o.store ≡ x.store) × (o.links ≡ opened_links id nodes x.lanes)
    → (x : Lasting) × IsLasting id nodes x × SayNow rows id x × IsOpened id nodes x o
opened_so rows id nodes o h = (h.0, h.1, h.2, record { named = h.3; sessions = h.4; store = h.5; links = h.6 })
