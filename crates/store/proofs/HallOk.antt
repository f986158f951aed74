-- The halls that have a stored form are the valid ones: `Valid` says of a hall what its form asks. Assumes nothing.
use Prim.Native.Nat.{ℕ, ◌≤◌, ◌<◌}
use native.Mathlib.Omega.{arith}
use mathlib.Core.Path.{◌≡◌, sym, ap, subst, fun_ext}
use mathlib.Core.Logic.{◌↔◌, ◌⊎◌, inl, inr, ⊎_elim}
use mathlib.Core.Bool.{false}
use mathlib.Core.List.{List, []}
use lib.ListN.{length}
use Rattle.base.specs.Numbers.{numbers}
use Rattle.base.specs.Lists.{has}
use Rattle.base.proofs.Bools.{by_cases}
use Rattle.base.proofs.NumbersLaws.{numbers-range}
use Rattle.model.specs.Hall.{max_views, max_queue, max_recorders, Queued, Hall}
use Rattle.codec.specs.Form.{mapped, renamed, guarded}
use Rattle.codec.specs.Number.{number}
use Rattle.codec.specs.Pair.{given}
use Rattle.codec.specs.Table.{Tabled, table}
use Rattle.codec.proofs.TableLaws.{all-keys, each-key}
use Rattle.store.specs.Valid.{QueueIn, InRange, ValidHall}
use Rattle.store.specs.Cells.{RecorderCell, blank_recorder, recorder_at, EndpointCell, blank_endpoint, endpoint_at}
use Rattle.store.specs.CellForms.{recorder_form, endpoint_form, queue_form, vote_form}
use Rattle.store.specs.ViewForm.{views_form}
use Rattle.store.specs.HallForm.{recorders_form, row_form, network_form, queues_form, votes_form, body_form, after_size, fields, hall_fields, hall_form}
use Rattle.store.proofs.Ranges.{outside-keys, numbered, numbered-in, numbered-out, entries-ok, recorder-ok, recorder-blank, endpoint-ok, endpoint-blank, queue-ok, vote-ok}

module _ (h : Hall) where
  abbrev created : List ℕ
  created = h.service.created

  abbrev endpoint : ℕ → ℕ → EndpointCell
  endpoint = endpoint_at h.service h.summaries

  abbrev recorder : ℕ → RecorderCell
  recorder = recorder_at h.service.current h.recorders

  form_in : InRange h → hall_fields.ok h
  unfolding hall_fields renamed mapped fields after_size body_form given number views_form recorders_form network_form row_form queues_form votes_form table
  form_in w = (
    w.size,
    (
      w.views,
      (
        (entries-ok h.size h.entries).0 w.entries,
        (
          numbered recorder_form h.size max_recorders blank_recorder recorder
              (λ r l u. (recorder-ok h.service.current h.recorders r).0 (w.recorder r l u))
              (λ r o. (recorder-blank h.service.current h.recorders r).0 (w.recorder_blank r o)),
          (
            numbered (row_form created) h.size max_recorders (λ g. blank_endpoint) endpoint
                (λ p l u. record {
                  inside = all-keys endpoint_form.ok (endpoint p) created (λ g k. (endpoint-ok h.service h.summaries p g).0 (w.endpoint p g l u k));
                  outside = λ g k. (endpoint-blank h.service h.summaries p g).0 (w.endpoint_blank p g (inr k));
                })
                (λ p o. fun_ext (λ g. (endpoint-blank h.service h.summaries p g).0 (w.endpoint_blank p g (inl o)))),
            (
              record {
                inside = all-keys queue_form.ok h.service.queue created (λ g k. (queue-ok (h.service.queue g)).0 (w.queue_length g, w.queue g));
                outside = w.queue_blank;
              },
              numbered vote_form h.size max_recorders 0 h.votes (λ r l u. (vote-ok (h.votes r)).0 (w.votes.at_most r l u)) w.votes.blank,
            ),
          ),
        ),
      ),
    ),
  )

  module _ (o : hall_fields.ok h) where
    rows : Tabled (row_form created) (numbers 1 h.size) max_recorders (λ g. blank_endpoint) endpoint
    unfolding hall_fields renamed mapped fields after_size body_form given number views_form recorders_form network_form row_form queues_form votes_form table
    rows = o.1.1.1.1.0

    queues : Tabled queue_form created max_views [] h.service.queue
    unfolding hall_fields renamed mapped fields after_size body_form given number views_form recorders_form network_form row_form queues_form votes_form table
    queues = o.1.1.1.1.1.0

    row : (p : ℕ) → 1 ≤ p → p ≤ h.size → Tabled endpoint_form created max_views blank_endpoint (endpoint p)
    unfolding row_form table mapped
    row = numbered-in (row_form created) h.size max_recorders (λ g. blank_endpoint) endpoint rows

    blank-endpoint : (p g : ℕ) → ((p ≡ 0) ⊎ (h.size < p)) ⊎ (has created g ≡ false) → endpoint p g ≡ blank_endpoint
    blank-endpoint p g c = ⊎_elim above unformed c
      where
        above : (p ≡ 0) ⊎ (h.size < p) → endpoint p g ≡ blank_endpoint
        above z = ap (λ (f : ℕ → EndpointCell). f g) (numbered-out (row_form created) h.size max_recorders (λ g. blank_endpoint) endpoint rows p z)

        unformed : has created g ≡ false → endpoint p g ≡ blank_endpoint
        unformed z = by_cases (has (numbers 1 h.size) p)
            (λ k. let r = numbers-range 1 h.size p k in (row p r.0 (omega arith)).outside g z)
            (λ k. above ((outside-keys h.size p).1 k))

    queue-in : (g : ℕ) → (length (h.service.queue g) ≤ max_queue) × QueueIn (h.service.queue g)
    queue-in g = by_cases (has created g)
        (λ k. (queue-ok (h.service.queue g)).1 (each-key queue_form.ok h.service.queue created queues.inside g k))
        (λ k. subst (λ (ms : List Queued). (length ms ≤ max_queue) × QueueIn ms) (sym (queues.outside g k)) (omega arith, tt))

    in-form : InRange h
    unfolding hall_fields renamed mapped fields after_size body_form given number views_form recorders_form network_form row_form queues_form votes_form table
    in-form =
        record {
          size = o.0;
          votes = record {
            at_most = λ r l u. (vote-ok (h.votes r)).1 (numbered-in vote_form h.size max_recorders 0 h.votes o.1.1.1.1.1.1 r l u);
            blank = numbered-out vote_form h.size max_recorders 0 h.votes o.1.1.1.1.1.1;
          };
          entries = (entries-ok h.size h.entries).1 o.1.1.0;
          views = o.1.0;
          recorder = λ r l u. (recorder-ok h.service.current h.recorders r).1
              (numbered-in recorder_form h.size max_recorders blank_recorder recorder o.1.1.1.0 r l u);
          recorder_blank = λ r z. (recorder-blank h.service.current h.recorders r).1
              (numbered-out recorder_form h.size max_recorders blank_recorder recorder o.1.1.1.0 r z);
          endpoint = λ p g l u k. (endpoint-ok h.service h.summaries p g).1
              (each-key endpoint_form.ok (endpoint p) created (row p l u).inside g k);
          endpoint_blank = λ p g c. (endpoint-blank h.service h.summaries p g).1 (blank-endpoint p g c);
          queue_length = λ g. (queue-in g).0;
          queue = λ g. (queue-in g).1;
          queue_blank = queues.outside;
        }

  -- each field in its range
  pub fields-ok : InRange h ↔ hall_fields.ok h
  fields-ok = (form_in, in-form)

  -- and the cross rules
  pub hall-ok : ValidHall h ↔ hall_form.ok h
  unfolding hall_form guarded
  hall-ok = (
    λ w. (form_in w.in_range, w.cross),
    λ o. record { in_range = in-form o.0; cross = o.1 },
  )
