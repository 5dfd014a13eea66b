-- The definitions that the rules are made of, opened for computation. Assumes nothing.
use Prim.Native.Nat.{ℕ}
use Rattle.octets.specs.Fix.{fix, steps}
use Rattle.octets.specs.Laid.{laid}
use Rattle.ft_number.specs.Ack.{ack_of}
use Rattle.ft_number.specs.Circle.{after, steps_of}
use Rattle.ft_number.specs.Timeout.{lesser_of}
use Rattle.ft_number.specs.Turn.{number_turn}
use Rattle.label_list.specs.Beside.{entry_at}
use Rattle.label_list.specs.Counting.{counting}
use Rattle.label_list.specs.Find.{any, find_of, overlaid, spare_in}
use Rattle.label_list.specs.Protection.{bars_protection, code_protection, needs_protection}
use Rattle.label_list.specs.Requests.{open_at}
use Rattle.label_list.specs.Rules.{code_accepted, code_acked, code_received, code_swept, received_side, sent_side}
use Rattle.label_list.specs.Sweep.{word_swept}
use Rattle.label_list.specs.Valid.{valid_of, valid_word}
use Rattle.label_list.specs.Word.{is_free, on_side, stands_for, word_of, is_request, lists_label}
use Rattle.tlv.specs.Element.{fec_of, is_prefix, is_wildcard, masked_to}
use Rattle.tlv.specs.Tlv.{tlv_of}
use Rattle.tlv.specs.Value.{fec_at, field_at, number_at, parameters_at, part_at, session_at, id_at}
use Rattle.tlv.specs.Walk.{noted_of, tlvs_of, turn_of, walk_of}
use Rattle.label_events.specs.Accept.{accepted_of, plan_of}
use Rattle.label_events.specs.Ack.{acked_at}
use Rattle.label_events.specs.Change.{change_at, changed, code_in, placed_at}
use Rattle.label_events.specs.Protect.{protection_of}
use Rattle.label_events.specs.Receive.{received_change, received_with, received_place}
use Rattle.label_events.specs.Requests.{ended_at, room_at, asked_plan, aborted_plan}
use Rattle.message.specs.Kinds.{kind_of}
use Rattle.message.specs.Reading.{message_of, places_of, reading_of, type_of}
use Rattle.message.specs.Submission.{bears_ft, submission_of, entry_in}
use Rattle.message_writer.specs.Forms.{raised}
use Rattle.message_writer.specs.Payload.{kept_of, payload_of}
use Rattle.protocol.specs.Accepting.{accepted_as, is_barred, ids_accepted, index_accepted}
use Rattle.protocol.specs.Acked.{acked, released_kind, released_labels}
use Rattle.protocol.specs.Answers.{effect_of}
use Rattle.protocol.specs.ConnectionFailed.{connection_failed}
use Rattle.protocol.specs.Held.{is_held}
use Rattle.protocol.specs.Init.{both_set, start_of, fresh, resumed, init_received}
use Rattle.protocol.specs.KeepAlive.{keepalive}
use Rattle.protocol.specs.Labels.{label_effect, protection_rule, answers, answered_at}
use Rattle.protocol.specs.LeftOut.{is_aborted, passed_over}
use Rattle.protocol.specs.Open.{kept_ack, open_session}
use Rattle.protocol.specs.Phases.{issued_count, phase_fits}
use Rattle.protocol.specs.Receive.{ack_on, ft_rule, labels_rule, message_rule, taken, received_state, receive}
use Rattle.protocol.specs.Send.{place_sent, queue_number, ack_asked, send_bytes, send_rule, numbered, sent_state, send_next}
use Rattle.protocol.specs.Step.{settle, admitted}
use Rattle.protocol.specs.Submit.{kind_rule, submit_rule, submitted, submit}
use Rattle.protocol.specs.TimePassed.{expired, time_passed}
use Rattle.protocol.specs.Writer.{writer}

-- to unfold this is to unfold all of them
unfoldable pub everything : ℕ
unfolding laid fix steps entry_at overlaid spare_in lists_label fec_of is_prefix is_wildcard masked_to placed_at received_place entry_in index_accepted ack_of after steps_of lesser_of tlv_of fec_at field_at number_at parameters_at part_at session_at noted_of tlvs_of turn_of walk_of number_turn kind_of message_of places_of reading_of type_of bears_ft submission_of raised kept_of payload_of any find_of bars_protection code_protection needs_protection code_accepted code_acked code_received code_swept received_side sent_side word_swept valid_of valid_word is_free on_side stands_for word_of accepted_of plan_of acked_at change_at changed code_in protection_of received_change received_with ended_at room_at asked_plan aborted_plan counting open_at is_request id_at answers answered_at ids_accepted effect_of issued_count phase_fits is_held settle admitted accepted_as is_barred acked released_kind released_labels kind_rule submit_rule submitted submit is_aborted passed_over place_sent queue_number ack_asked send_bytes send_rule numbered sent_state send_next label_effect protection_rule both_set start_of fresh resumed init_received ack_on ft_rule labels_rule message_rule taken received_state receive connection_failed expired time_passed writer keepalive kept_ack open_session
everything = 0
