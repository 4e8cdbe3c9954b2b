-- States are read as they are spelled.
use Rattle.std.proofs.Common.{◌≡◌, ℕ, ◌<◌, ◌^◌, true, cond, List, [], ◌∷◌, ◌++◌, length, Option, Some, None, is_some, Ok, refl, sym, ap, subst, ◌∙◌, append_assoc, arith}
use Rattle.std.specs.Prelude.{flat_map}
use Rattle.std.specs.Int.{Width, byte_len, w8, w16, w32, w64}
use Rattle.std.specs.List.{AllByRecursion}
use Rattle.std.specs.FinMap as map
use Rattle.mqtt_fields.specs.declared.fault.FieldFault.TheVariants.{Malformed}
use Rattle.mqtt_fields.specs.Field.{Field, IsField, after, tested, seen}
use Rattle.mqtt_fields.specs.Numbers.{number, text}
use Rattle.mqtt_fields.proofs.Laws.{IsBytes-after, bind_ok, ok_is, after_is, tested_is, seen_is}
use Rattle.mqtt_fields.proofs.NumberLaws.{IsWide, number_is, wide8, wide16, wide32, wide64, text_is}
use Rattle.mqtt_message.specs.Spelling.{values_at, optional}
use Rattle.mqtt_message.specs.Spellings.{message}
use Rattle.mqtt_message.specs.Parts.{is_name, name}
use Rattle.mqtt_message.proofs.SpellingLaws.{values_takes, optional_is}
use Rattle.mqtt_message.proofs.WholeLaws.{message_is}
use Rattle.causal_context.specs.Dots.{Dots, dot_cmp_total, dot_cmp_antisym}
use Rattle.causal_context.specs.Spelling.{context, HasSpelling}
use Rattle.causal_context.proofs.SpellingLaws.{context_is}
use Rattle.subscription_set.specs.Entries.{can_be_asked}
use Rattle.subscription_set.specs.Statuses.{Status, Statuses}
use Rattle.subscription_set.specs.Standing.{Entries, statuses, seen_of, standing, entry_of}
use Rattle.subscription_set.proofs.Seen.{get-statuses, contains-seen_of, seen_of-statuses}
use Rattle.subscription_set.proofs.Standings.{find-standing, rises-standing, standing-statuses}
use Rattle.replica_store.specs.Retained.{Retained, topic_cmp}
use Rattle.replica_store.specs.States.{State, TakenIsSeen}
use Rattle.subscription_set.specs.Merging.{IsSet}
use Rattle.mqtt_topics.specs.Testing.{is_filter}
use Rattle.replica_bytes.specs.Spelling.{listed_by}
use Rattle.replica_bytes.specs.Values.{is_number, dot, filter, asked, subscription_in, entry_in, subscription, entry, has_topic, stamp, kept_in, kept, topic_entry, dot_entry}
use Rattle.replica_bytes.specs.Stores.{have_seen, is_set, entries, seeing, subscriptions, retained, state}
use Rattle.replica_bytes.proofs.Sets.{passed_set, seen_passes, set_passes, t_true, true_t}

values_again : {A : Type 0} (f : Field A) → IsField f → (xs : List A) (rest : List ℕ) → AllByRecursion f.Fits xs → values_at f (length xs) (flat_map f.bytes xs ++ rest) ≡ Ok (xs, rest)
values_again f F [] rest each = refl
values_again f F (x ∷ xs) rest each = rw (append_assoc (f.bytes x) (flat_map f.bytes xs) rest, F.again x (flat_map f.bytes xs ++ rest) each.0, values_again f F xs rest each.1) refl

listed_by_is : {A : Type 0} (w : Width) (f : Field A) → IsWide w → IsField f → IsField (listed_by w f)
listed_by_is {A} w f W F = record {
  takes = λ bs x bytes e.
      let n = bind_ok ((number w).at bs) (λ n. values_at f n.0 n.1) x e in
      let s = (number_is w W).takes bs n.0 bytes n.1 in
      let t = values_takes f F n.0.0 n.0.1 x (IsBytes-after bs ((number w).bytes n.0.0) n.0.1 bytes s.0) n.2 in
      let Front : ℕ → Type 0 = λ k. (bs ≡ (number w).bytes k ++ n.0.1) × (k < 256 ^ byte_len w) in
      let front = subst Front (sym t.count) s in
      (front.0 ∙ ap (λ (r : List ℕ). (number w).bytes (length x.0) ++ r) t.spelled ∙ sym (append_assoc ((number w).bytes (length x.0)) (flat_map f.bytes x.0) x.1), (front.1, t.each));
  again = λ xs rest fits.
      rw (append_assoc ((number w).bytes (length xs)) (flat_map f.bytes xs) rest, (number_is w W).again (length xs) (flat_map f.bytes xs ++ rest) fits.0) (values_again f F xs rest fits.1);
}

-- the same bytes, for values of another type, of which some that fit are those that are read
seen_fits : {A B : Type 0} (to : A → B) (from : B → A) (f : Field A) → ((a : A) → f.Fits a → from (to a) ≡ a) → ((b : B) → to (from b) ≡ b) → IsField f → IsField (seen to from f)
seen_fits {A} {B} to from f back forth F = record {
  takes = λ bs x fits e.
      let a = bind_ok (f.at bs) (λ a. Ok (to a.0, a.1)) x e in
      let s = F.takes bs a.0 fits a.1 in
      let made : B × List ℕ = (to a.0.0, a.0.1) in
      subst (λ (y : B × List ℕ). (bs ≡ f.bytes (from y.0) ++ y.1) × f.Fits (from y.0)) (ok_is made x a.2) (rw (back a.0.0 s.1) s);
  again = λ b rest fits. rw (F.again (from b) rest fits, forth b) refl;
}

pub dot_is : IsField dot
dot_is = seen_is (λ x. record { node = x.0; number = x.1 }) (λ d. (d.node, d.number)) (tested (λ x. is_number x.1) Malformed (after (number w16) (λ _. number w64))) (λ _. refl) (λ _. refl)
    (tested_is (λ x. is_number x.1) Malformed (after (number w16) (λ _. number w64)) (after_is (number w16) (λ _. number w64) (number_is w16 wide16) (λ _. number_is w64 wide64)))

filter_is : IsField filter
filter_is = tested_is is_filter Malformed text text_is

asked_is : IsField asked
asked_is = tested_is (λ x. can_be_asked x.0.0 x.0.1) Malformed (after (after (number w8) (λ _. number w32)) (λ _. number w32))
    (after_is (after (number w8) (λ _. number w32)) (λ _. number w32) (after_is (number w8) (λ _. number w32) (number_is w8 wide8) (λ _. number_is w32 wide32)) (λ _. number_is w32 wide32))

pub subscription_is : IsField subscription
subscription_is = after_is filter (λ _. asked) filter_is (λ _. asked_is)

entry_is : IsField entry
unfolding entry
entry_is = seen_is entry_in (λ e. (e.client, subscription_in e)) (after text (λ _. subscription)) (λ _. refl) (λ _. refl) (after_is text (λ _. subscription) text_is (λ _. subscription_is))

dot_entry_is : IsField dot_entry
dot_entry_is = after_is dot (λ _. entry) dot_is (λ _. entry_is)

stamp_is : IsField stamp
stamp_is = seen_is (λ x. record { count = x.0; node = x.1 }) (λ s. (s.count, s.node)) (tested (λ x. is_number x.0) Malformed (after (number w64) (λ _. number w16))) (λ _. refl) (λ _. refl)
    (tested_is (λ x. is_number x.0) Malformed (after (number w64) (λ _. number w16)) (after_is (number w64) (λ _. number w16) (number_is w64 wide64) (λ _. number_is w16 wide16)))

pub kept_is : (topic : List ℕ) → IsField (kept topic)
unfolding kept
kept_is topic = seen_is kept_in (λ k. (k.stamp, k.message)) (after stamp (λ _. tested (has_topic topic) Malformed (optional message))) (λ _. refl) (λ _. refl)
    (after_is stamp (λ _. tested (has_topic topic) Malformed (optional message)) stamp_is (λ _. tested_is (has_topic topic) Malformed (optional message) (optional_is message message_is)))

topic_entry_is : IsField topic_entry
topic_entry_is = after_is name kept (tested_is is_name Malformed text text_is) kept_is

entries_is : (c : Dots) → IsField (entries c)
entries_is c = tested_is (is_set c) Malformed (listed_by w32 dot_entry) (listed_by_is w32 dot_entry wide32 dot_entry_is)

status_back : (x : Option Status) → cond (is_some x) (Some (entry_of x)) None ≡ x
status_back None = refl
status_back (Some x) = refl

pub made_again : (m : Statuses) → statuses (seen_of m) (standing m) ≡ m
made_again m = map.same_map dot_cmp_total dot_cmp_antisym _ _ (λ q.
    get-statuses (seen_of m) (standing m) q ∙ (λ i. cond (contains-seen_of m q i) (Some (find-standing m q i)) None) ∙ status_back (map.get m q))

parts_back : (x : Dots × Entries) → (after context entries).Fits x → (seen_of (statuses x.0 x.1), standing (statuses x.0 x.1)) ≡ x
parts_back x fits =
    let seen = seen_of-statuses x.0 x.1 in
    let all = standing-statuses x.0 x.1 (passed_set x.0 x.1 fits.1.1) in
    λ i. (seen i, all i)

subscriptions_is : IsField subscriptions
unfolding subscriptions
subscriptions_is = seen_fits (λ x. statuses x.0 x.1) (λ m. (seen_of m, standing m)) (after context entries) parts_back made_again (after_is context entries context_is entries_is)

retained_is : IsField retained
unfolding retained
retained_is = seen_fits map.from_sorted map.entries (tested (map.is_sorted topic_cmp) Malformed (listed_by w32 topic_entry))
    (λ es fits. map.entries-from_sorted topic_cmp es (true_t _ fits.1))
    (λ m. map.same_entries_map _ m (map.entries-from_sorted topic_cmp (map.entries m) (map.entries_sorted m)))
    (tested_is (map.is_sorted topic_cmp) Malformed (listed_by w32 topic_entry) (listed_by_is w32 topic_entry wide32 topic_entry_is))

seeing_is : (dots : Dots) → IsField (seeing dots)
unfolding seeing
seeing_is dots = tested_is (have_seen dots) Malformed subscriptions subscriptions_is

pub state_is : IsField state
unfolding state
state_is = seen_is (λ x. record { taken = x.0; subscriptions = x.1.0; retained = x.1.1 }) (λ s. (s.taken, (s.subscriptions, s.retained))) (after context (λ taken. after (seeing taken) (λ _. retained))) (λ _. refl) (λ _. refl)
    (after_is context (λ taken. after (seeing taken) (λ _. retained)) context_is (λ taken. after_is (seeing taken) (λ _. retained) (seeing_is taken) (λ _. retained_is)))

-- ---- what has a spelling

pub retained_bytes : (r : Retained) (count : ℕ) → count ≡ map.len r → (number w32).bytes count ++ flat_map topic_entry.bytes (map.entries r) ≡ retained.bytes r
unfolding retained
retained_bytes r count is = ap (λ n. (number w32).bytes n ++ flat_map topic_entry.bytes (map.entries r)) (is ∙ map.len-entries r)

pub retained_fits : (r : Retained) → map.len r < 2 ^ 32 → AllByRecursion topic_entry.Fits (map.entries r) → retained.Fits r
unfolding retained
retained_fits r few all = ((omega (arith, few, map.len-entries r), all), t_true _ (map.entries_sorted r))

some_status : (x : Option Status) → is_some (entry_of x) ≡ true → is_some x ≡ true
some_status None e = e
some_status (Some x) e = refl

stands_seen : (m : Statuses) → IsSet (seen_of m) (standing m)
stands_seen m = record {
  seen = λ q some. contains-seen_of m q ∙ some_status (map.get m q) (sym (ap is_some (find-standing m q)) ∙ some);
  rises = rises-standing m;
}

pub subscriptions_fit : (m : Statuses) → HasSpelling (seen_of m) → length (standing m) < 2 ^ 32 → AllByRecursion dot_entry.Fits (standing m) → subscriptions.Fits m
unfolding subscriptions context
subscriptions_fit m spelled few all = (spelled, ((omega (arith, few), all), set_passes (seen_of m) (standing m) (stands_seen m)))

pub subscriptions_bytes : (m : Statuses) (count : ℕ) (seen : List ℕ) → seen ≡ context.bytes (seen_of m) → count ≡ length (standing m)
    → seen ++ ((number w32).bytes count ++ flat_map dot_entry.bytes (standing m)) ≡ subscriptions.bytes m
unfolding subscriptions
subscriptions_bytes m count seen is counted = λ i. is i ++ ((number w32).bytes (counted i) ++ flat_map dot_entry.bytes (standing m))

pub state_fits : (s : State) → HasSpelling s.taken → TakenIsSeen s → subscriptions.Fits s.subscriptions → retained.Fits s.retained → state.Fits s
unfolding state context seeing
state_fits s taken all subs kept = (taken, ((subs, seen_passes s.taken s.subscriptions all), kept))

pub few_topics : (r : Retained) → retained.Fits r → map.len r < 2 ^ 32
unfolding retained
few_topics r fits = let few = fits.0.0 in omega (arith, few, map.len-entries r)
