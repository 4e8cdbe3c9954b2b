-- The answer of a state is that of its operations.
use Rattle.std.proofs.Common.{◌≡◌, ◌↔◌, ℕ, Bool, true, false, cond, ◌&&◌, List, [], ◌∷◌, map as map_list, Option, Some, None, inl, inr, T, sym, ap, subst, ◌∙◌}
use Rattle.std.specs.FinMap as map
use Rattle.std.specs.FinMap.Entries.{below_all, is_sorted, find}
use Rattle.std.specs.Ordering.{eq_by_cmp, is_lt}
use Rattle.std.specs.Cmp.Lexicographic.{nat_list_cmp_total}
use Rattle.mqtt_message.specs.declared.message.Message.{Message}
use Rattle.subscription_set.proofs.Places.{first_part, second_part}
use Rattle.replica_store.specs.declared.operation.Operation.{Operation}
use Rattle.replica_store.specs.declared.kept.Kept.{Kept}
use Rattle.replica_store.specs.Operations.{HaveOwnDots, HasKept}
use Rattle.causal_context.specs.OrderLattice.{same_from_order}
use Rattle.replica_store.specs.Retained.{topic_cmp, HasAlive}
use Rattle.replica_store.specs.RetainedLattice.{topic_cmp_antisym, kept_cmp_total, kept_cmp_antisym}
use Rattle.replica_store.specs.Answers.{Answers, IsAnswer, IsAnswerOf}
use Rattle.replica_store.specs.States.{State}
use Rattle.replica_store.specs.StateOf.{IsStateOf}
use Rattle.replica_store.proofs.Views.{by_test, tied_is, none_after, some_same, no_some}

both_parts : (a b : Bool) → T a → T b → T (a && b)
both_parts true b p q = q
both_parts false b p q = p

-- an entry has one message
one_message : (kept : Kept) (now : ℕ) (m n : Message) → HasAlive (Some kept) now m → HasAlive (Some kept) now n → m ≡ n
one_message kept now m n a b = some_same m n (sym a.message ∙ b.message)

abbrev Topics : Type 0
Topics = List (List ℕ × Kept)

module _ (to : List ℕ) (now : ℕ) where
  -- the entry of the topic answers
  abbrev Answering : Topics → List ℕ → Message → Type 0
  Answering es topic m = (kept : Kept) × (find topic_cmp topic es ≡ Some kept) × Answers to now topic kept m

  -- the message is under the topic where the topic's entry answers
  abbrev Agrees : List (List ℕ × Message) → Topics → List ℕ → Message → Type 0
  Agrees under es topic m = (find topic_cmp topic under ≡ Some m) ↔ Answering es topic m

  -- the answer, under its topics
  record Under (es : Topics) (out : List Message) : Type 0 where
    under : List (List ℕ × Message)
    messages : map_list (λ x. x.1) under ≡ out
    rises : T (is_sorted topic_cmp under)
    below : (x : List ℕ) → T (below_all topic_cmp x es) → T (below_all topic_cmp x under)
    each : (topic : List ℕ) (m : Message) → Agrees under es topic m

  found : (topic : List ℕ) (e : List ℕ × Kept) (es : Topics) (b : Bool) → eq_by_cmp topic_cmp topic e.0 ≡ b → find topic_cmp topic (e ∷ es) ≡ cond b (Some e.1) (find topic_cmp topic es)
  found topic e es b t = ap (λ c. cond c (Some e.1) (find topic_cmp topic es)) t

  found_in : (topic : List ℕ) (x : List ℕ × Message) (es : List (List ℕ × Message)) (b : Bool) → eq_by_cmp topic_cmp topic x.0 ≡ b → find topic_cmp topic (x ∷ es) ≡ cond b (Some x.1) (find topic_cmp topic es)
  found_in topic x es b t = ap (λ c. cond c (Some x.1) (find topic_cmp topic es)) t

  -- the head is of another topic
  past : (topic : List ℕ) (e : List ℕ × Kept) (es : Topics) (m : Message) → eq_by_cmp topic_cmp topic e.0 ≡ false → Answering (e ∷ es) topic m ↔ Answering es topic m
  past topic e es m t = (
    λ a. (a.0, sym (found topic e es false t) ∙ a.1, a.2),
    λ a. (a.0, found topic e es false t ∙ a.1, a.2),
  )

  -- the head is of the topic
  at : (topic : List ℕ) (e : List ℕ × Kept) (es : Topics) (m : Message) → eq_by_cmp topic_cmp topic e.0 ≡ true → Answering (e ∷ es) topic m ↔ Answers to now e.0 e.1 m
  at topic e es m t =
      let same = tied_is {R = topic_cmp} topic_cmp_antisym topic e.0 t in (
        λ a. subst (λ k. Answers to now e.0 k m) (some_same a.0 e.1 (sym a.1 ∙ found topic e es true t)) (subst (λ u. Answers to now u a.0 m) same a.2),
        λ a. (e.1, found topic e es true t, subst (λ u. Answers to now u e.1 m) (sym same) a),
      )

  under_of : (es : Topics) → T (is_sorted topic_cmp es) → (out : List Message) → IsAnswer to now es out → Under es out
  under_of [] h out is = record {
    under = [];
    messages = sym is;
    rises = tt;
    below = λ x b. b;
    each = λ topic m. (λ e. cc, λ a. absurd (let e = a.1 in cc));
  }
  under_of (e ∷ es) h out is = elim is [
    | inl a ↦ yes a.0 a.1 a.2 a.3 (under_of es (second_part _ _ h) a.1 a.4)
    | inr a ↦ no a.0 (under_of es (second_part _ _ h) out a.1)
  ]
    where
      yes : (m : Message) (rest : List Message) → Answers to now e.0 e.1 m → out ≡ m ∷ rest → Under es rest → Under (e ∷ es) out
      yes m rest a is u = record {
        under = (e.0, m) ∷ u.under;
        messages = ap (λ l. m ∷ l) u.messages ∙ sym is;
        rises = both_parts (below_all topic_cmp e.0 u.under) (is_sorted topic_cmp u.under) (u.below e.0 (first_part (below_all topic_cmp e.0 es) (is_sorted topic_cmp es) h)) u.rises;
        below = λ x b. both_parts (is_lt (topic_cmp x e.0)) (below_all topic_cmp x u.under) (first_part (is_lt (topic_cmp x e.0)) (below_all topic_cmp x es) b) (u.below x (second_part (is_lt (topic_cmp x e.0)) (below_all topic_cmp x es) b));
        each = λ topic n. by_test (eq_by_cmp topic_cmp topic e.0) (Agrees ((e.0, m) ∷ u.under) (e ∷ es) topic n)
            (λ t. (
              λ f. (at topic e es n t).1 (subst (Answers to now e.0 e.1) (some_same m n (sym (found_in topic (e.0, m) u.under true t) ∙ f)) a),
              λ b. found_in topic (e.0, m) u.under true t ∙ ap Some (one_message e.1 now m n a.kept ((at topic e es n t).0 b).kept),
            ))
            (λ t. (
              λ f. (past topic e es n t).1 ((u.each topic n).0 (sym (found_in topic (e.0, m) u.under false t) ∙ f)),
              λ b. found_in topic (e.0, m) u.under false t ∙ (u.each topic n).1 ((past topic e es n t).0 b),
            ));
      }

      no : ((m : Message) → ¬ Answers to now e.0 e.1 m) → Under es out → Under (e ∷ es) out
      no silent u = record {
        under = u.under;
        messages = u.messages;
        rises = u.rises;
        below = λ x b. u.below x (second_part (is_lt (topic_cmp x e.0)) (below_all topic_cmp x es) b);
        each = λ topic n. by_test (eq_by_cmp topic_cmp topic e.0) (Agrees u.under (e ∷ es) topic n)
            (λ t. (
              λ f. (let a = (u.each topic n).0 f in no_some (Answering (e ∷ es) topic n) (find topic_cmp topic es) a.0 (none_after nat_list_cmp_total topic_cmp_antisym topic e es h t) a.1),
              λ b. absurd (silent n ((at topic e es n t).0 b)),
            ))
            (λ t. (
              λ f. (past topic e es n t).1 ((u.each topic n).0 f),
              λ b. (u.each topic n).1 ((past topic e es n t).0 b),
            ));
      }

-- of each topic one thing is kept
same_kept : (O : List Operation) (topic : List ℕ) (x : Option Kept) (kept : Kept) → HasKept O topic x → HasKept O topic (Some kept) → x ≡ Some kept
same_kept O topic None kept h k = absurd (h kept k.put)
same_kept O topic (Some x) kept h k = ap Some (same_from_order kept_cmp_total kept_cmp_antisym x kept (k.greatest x h.put) (h.greatest kept k.put))

-- what is kept is found in the state
kept_found : (O : List Operation) (s : State) → IsStateOf O s → (topic : List ℕ) (kept : Kept) → (find topic_cmp topic (map.entries s.retained) ≡ Some kept) ↔ HasKept O topic (Some kept)
kept_found O s h topic kept = (
  λ f. subst (HasKept O topic) (map.get-entries s.retained topic ∙ f) (h.retained topic),
  λ k. sym (map.get-entries s.retained topic) ∙ same_kept O topic _ kept (h.retained topic) k,
)

pub answer_is : (O : List Operation) (s : State) → HaveOwnDots O → IsStateOf O s → (to : List ℕ) (now : ℕ) (out : List Message) → IsAnswer to now (map.entries s.retained) out → IsAnswerOf O to now out
answer_is O s own h to now out a =
    let u = under_of to now (map.entries s.retained) (map.entries_sorted s.retained) out a in
    record {
      under = u.under;
      messages = u.messages;
      rises = u.rises;
      each = λ topic m. (
        λ f. (let b = (u.each topic m).0 f in record { plain = b.2.plain; matches = b.2.matches; entry = b.0; kept = (kept_found O s h topic b.0).0 b.1; alive = b.2.kept }),
        λ b. (u.each topic m).1 (b.entry, (kept_found O s h topic b.entry).1 b.kept, record { plain = b.plain; matches = b.matches; kept = b.alive }),
      );
    }

pub one_answer : (to : List ℕ) (now : ℕ) (es : Topics) (out other : List Message) → IsAnswer to now es out → IsAnswer to now es other → out ≡ other
one_answer to now [] out other a b = a ∙ sym b
one_answer to now (e ∷ es) out other a b = elim a [
  | inl x ↦ elim b [
    | inl y ↦ x.3 ∙ (λ i. one_message e.1 now x.0 y.0 x.2.kept y.2.kept i ∷ one_answer to now es x.1 y.1 x.4 y.4 i) ∙ sym y.3
    | inr y ↦ absurd (y.0 x.0 x.2)
  ]
  | inr x ↦ elim b [
    | inl y ↦ absurd (x.0 y.0 y.2)
    | inr y ↦ one_answer to now es out other x.1 y.1
  ]
]
